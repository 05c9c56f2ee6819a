-- What is said to a debugger.
use Rattle.std.specs.Prelude.{ℕ, List, [], codes}
use Rattle.gdb_packets.specs.Writing.{packet_text}
use Rattle.gdb_talk.specs.declared.saying.Response.{Response}
use Rattle.gdb_talk.specs.declared.saying.Response.TheVariants as responses

-- a request found no memory
abbrev pub refused_text : List ℕ
refused_text = packet_text (codes "E.error 20")

-- what asks the debugger for an acknowledgement, so that what it said before is heard: a packet with nothing for its terminal
abbrev pub asks_text : List ℕ
asks_text = packet_text (codes "O")

abbrev pub response_text : Response → List ℕ
response_text responses.Nothing = []
response_text (responses.Packets text) = text.items
response_text responses.Asks = asks_text
response_text responses.Refused = refused_text
