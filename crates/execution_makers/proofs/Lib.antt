mod Unrefused
