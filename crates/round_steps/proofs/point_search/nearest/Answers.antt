use Rattle.round_steps.proofs.point_search.nearest.Goals as goal

pub nearest_stop-found-requires-clause-stops : goal.nearest_stop-found-requires-clause-stops
nearest_stop-found-requires-clause-stops g c = λ κs within. c.asks_of_stops_alone.ensures c.if-not-asks_of_stops_alone.false
