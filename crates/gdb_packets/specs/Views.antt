-- What a debugger says, as its contents.
use Rattle.gdb_packets.specs.declared.item.Item.{Item}
use Rattle.gdb_packets.specs.declared.item.Item.TheVariants as items
use Rattle.gdb_packets.specs.Stream.{Told, Accepted, Again, Interrupt, Packet, Spoilt}

abbrev pub told_in : Item → Told
told_in items.Accepted = Accepted
told_in items.Again = Again
told_in items.Interrupt = Interrupt
told_in (items.Packet payload) = Packet payload.items
told_in items.Spoilt = Spoilt
