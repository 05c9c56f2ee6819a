mod OutputLines
