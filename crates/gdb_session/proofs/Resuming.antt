-- What is said for a run that goes on or back until something is told.
use Rattle.std.proofs.Common.{◌≡◌, ℕ, List, Option, Some, None, inl, inr, refl, sym, ap, ◌∙◌}
use Rattle.watching.specs.declared.watchpoint.Way.{Way}
use Rattle.watching.specs.declared.watchpoint.Way.TheVariants.{On, Back}
use Rattle.gdb_packets.specs.Stream.{Told, Accepted, Again, Interrupt, Packet, Spoilt}
use Rattle.gdb_resumes.specs.declared.searching.Search.{Search}
use Rattle.gdb_runs.specs.declared.session.Standing.{Standing}
use Rattle.gdb_resumes.specs.Resumes.{Continues}
use Rattle.gdb_resumes.specs.Searches.{HasCome}
use Rattle.gdb_runs.specs.Sessions.{Recorded, State}
use Rattle.gdb_session.specs.Answers.{stands_packets}
use Rattle.gdb_talk.specs.Asking.{asked_by}
use Rattle.gdb_talk.specs.Saying.{asks_text, refused_text}
use Rattle.gdb_session.specs.Serving.{HearsBy, HearsWhile, RepliesOrGoesOn, RepliesTo, StandsOrLost, Talking, request_for, way_of}

module _ (r : Recorded) (s : State) where
  -- the search has ended
  resumed : (way : Way) (t : Standing) → Continues r s way t → (said : List ℕ) (u : State) → said ≡ stands_packets r t → u ≡ record s { standing = t } → RepliesTo r s (request_for way) said u
  resumed On t goes said u says is = inl (record { to = Some t; moves = goes; stands = (says, is) })
  resumed Back t goes said u says is = inl (record { to = Some t; moves = goes; stands = (says, is) })

  pub lost : (way : Way) (said : List ℕ) (u : State) → said ≡ refused_text → u ≡ s → RepliesTo r s (request_for way) said u
  lost On said u says is = inr (says, is)
  lost Back said u says is = inr (says, is)

  pub ended : (way : Way) (t : Standing) (said : List ℕ) (u : State) → Continues r s way t → StandsOrLost r s t said u → RepliesTo r s (request_for way) said u
  ended way t said u goes (inl x) = resumed way t goes said u x.0 x.1
  ended way t said u goes (inr x) = lost way said u x.0 x.1

  -- it goes on
  way_is : (way : Way) → way_of (request_for way) ≡ Some way
  way_is On = refl
  way_is Back = refl

  pub further : (way : Way) (x : Search) → x.reach.way ≡ way → HasCome r s x → RepliesOrGoesOn r s (request_for way) asks_text s (Some x)
  further way x same come = record { way = way_is way ∙ ap (λ (w : Way). Some w) (sym same); come = come; is = refl; stays = refl }

-- ---- what is heard

module _ (r : Recorded) (s : Talking) (said : List ℕ) (t : Talking) where
  pub heard_alone : (x : Told) → HearsBy r s (asked_by x s.last) said t → HearsWhile r s x None said t
  heard_alone Accepted h = h
  heard_alone Again h = h
  heard_alone Interrupt h = h
  heard_alone (Packet payload) h = h
  heard_alone Spoilt h = h

  -- what isn't about the search
  pub heard_packet : (payload : List ℕ) (y : Option Search) → HearsBy r s (asked_by (Packet payload) s.last) said t → HearsWhile r s (Packet payload) y said t
  heard_packet payload None h = h
  heard_packet payload (Some y) h = h

  pub heard_spoilt : (y : Option Search) → HearsBy r s None said t → HearsWhile r s Spoilt y said t
  heard_spoilt None h = h
  heard_spoilt (Some y) h = h
