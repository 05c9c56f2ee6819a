use Rattle.std.proofs.Common.{refl}
use Rattle.gdb_packets.specs.declared.request.Request.TheVariants as requests
use Rattle.gdb_talk.specs.declared.look.Look.{Look}
use Rattle.gdb_answers.specs.Answers.{checksum_answer, memory_answer, register_answer, registers_answer}
use Rattle.timelines.specs.Shown.{seen}
use Rattle.gdb_runs.specs.Sessions.{recorded_of}
use Rattle.gdb_session.proofs.Arriving.{read_with}
use Rattle.gdb_session.proofs.reading.read_at.Goals as goal

pub returns-in-ReadRegisters-clause-replies : goal.returns-in-ReadRegisters-clause-replies
returns-in-ReadRegisters-clause-replies g c = λ m is.
    read_with (recorded_of m c.args.run.now) c.args.standing c.args.request requests.ReadRegisters
    (λ (l : Look). registers_answer l.point.moment (seen m l.point l.hart)) c.look_of-look.result c.args.run.now.workers c.in-ReadRegisters.is
    c.look_of-look.ensures refl c.answer_registers.result (c.answer_registers.ensures.text m is)

pub returns-in-ReadRegister-clause-replies : goal.returns-in-ReadRegister-clause-replies
returns-in-ReadRegister-clause-replies g c = λ m is.
    read_with (recorded_of m c.args.run.now) c.args.standing c.args.request (requests.ReadRegister c.in-ReadRegister.number)
    (λ (l : Look). register_answer c.in-ReadRegister.number l.point.moment (seen m l.point l.hart)) c.look_of-look.result c.args.run.now.workers c.in-ReadRegister.is
    c.look_of-look.ensures refl c.answer_register.result (c.answer_register.ensures.text m is)

pub returns-in-ReadMemory-clause-replies : goal.returns-in-ReadMemory-clause-replies
returns-in-ReadMemory-clause-replies g c = λ m is.
    read_with (recorded_of m c.args.run.now) c.args.standing c.args.request (requests.ReadMemory c.in-ReadMemory.address c.in-ReadMemory.count)
    (λ (l : Look). memory_answer c.in-ReadMemory.address c.in-ReadMemory.count (seen m l.point l.hart)) c.look_of-look.result c.args.run.now.workers c.in-ReadMemory.is
    c.look_of-look.ensures refl c.answer_memory.result (c.answer_memory.ensures.text m is)

pub returns-in-Checksum-clause-replies : goal.returns-in-Checksum-clause-replies
returns-in-Checksum-clause-replies g c = λ m is.
    read_with (recorded_of m c.args.run.now) c.args.standing c.args.request (requests.Checksum c.in-Checksum.address c.in-Checksum.count)
    (λ (l : Look). checksum_answer c.in-Checksum.address c.in-Checksum.count (seen m l.point l.hart)) c.look_of-look.result c.args.run.now.workers c.in-Checksum.is
    c.look_of-look.ensures refl c.answer_checksum.result (c.answer_checksum.ensures.text m is)
