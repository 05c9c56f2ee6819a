use Rattle.report.proofs.blocks.put_body.Given as goal

abbrev pub ghosts-put_body_of : goal.ghosts-put_body_of
ghosts-put_body_of g a = record {
  bytes = a.state.now.pages.now.memory.bytes;
  output = a.state.now.output.now;
  events = a.trace.now.events;
}
