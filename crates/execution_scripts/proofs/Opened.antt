-- A follower at the start, and what is found at the end.
use Rattle.std.proofs.Common.{IfOk, Result, Ok, Err, inl, inr, ◌*◌, ◌≡◌, ℕ, zero, suc, ◌+◌, ◌<◌, ◌≤◌, ◌^◌, All, List, [], get_or, length, map, replicate, slice_get, slice_index, take, None, Option, Some, ap, arith, refl, subst, sym, ◌∙◌}
use Rattle.std.proofs.lemmas.List.{length-replicate}
use Rattle.round_schedule.specs.declared.bounds.TheConstants.{MOST_HARTS}
use Rattle.round_schedule.specs.declared.event.Event.{Event}
use Rattle.pages.specs.Memory.{Memory}
use Rattle.hart_step.specs.declared.hart.Hart.{Hart}
use Rattle.elf_loader.specs.Image.{Loaded}
use Rattle.guest_rounds.specs.Guests.{Guest, opening_guest}
use Rattle.guest_rounds.specs.Opening.{opening_harts}
use Rattle.execution.specs.Executions.{Standing}
use Rattle.execution_file.specs.Recorded.{HartDeeds, Recorded, Turn}
use Rattle.execution_file.specs.Deeds.{deeds, numbers_of}
use Rattle.execution_file.specs.Views.{as_recorded, hart_view, turn_view}
use Rattle.execution_views.specs.declared.sights.HartStep.{HartStep}
use Rattle.execution_views.specs.declared.sights.Sights.{Sights}
use Rattle.execution_views.specs.Walks.{AreSights}
use Rattle.execution_checker.specs.declared.verdict.Verdict.{Verdict}
use Rattle.pages.specs.declared.access.Piece.{Piece}
use Rattle.pages.specs.Initial.{bytes_from}
use Rattle.trace.specs.Traced.{HasForm, Laid, laid, opening_at}
use Rattle.execution.proofs.Forming.{executes_even}
use Rattle.execution.specs.declared.step.ScriptedStep.{ScriptedStep}
use Rattle.execution_checker.specs.Allowed.{IsJudged as Judges, IsVerdict}
use Rattle.execution_checker.proofs.Followed.{followed, judged as has_verdict}
use Rattle.execution_checker.proofs.Formed.{executes_formed}
use Rattle.execution_file.specs.declared.file.ExecutionFile.{ExecutionFile}
use Rattle.execution_file.specs.declared.file.HartDeeds.{HartDeeds as HartHeld}
use Rattle.execution_file.specs.declared.file.Turn.{Turn as TurnHeld}
use Rattle.execution_file.specs.Turns.{AreNames}
use Rattle.execution_scripts.specs.Misfits.{IsUnfollowed, IsUnnamed, IsUnsaid}
use Rattle.execution_scripts.specs.declared.checking.Checked.{Checked}
use Rattle.execution_scripts.specs.declared.checking.Finding.{Finding}
use Rattle.execution_scripts.specs.declared.checking.Finding.TheVariants as findings
use Rattle.execution_scripts.specs.declared.fault.Fault.{Fault}
use Rattle.execution_scripts.specs.declared.fault.Halt.{Halt}
use Rattle.execution_scripts.specs.declared.fault.Halt.TheVariants as halts
use Rattle.execution_scripts.specs.declared.way.Way.{Way}
use Rattle.execution_scripts.proofs.Judging.{found_by, opened_at, verdict_on}
use Rattle.execution_scripts.specs.Following.{AreFollowed, done_by, done_of, line_of, stop_by, stop_in}
use Rattle.execution_scripts.specs.Courses.{AreWithin, Course, HandsOn, HasRead, IsOn, IsWay, OnFault}
use Rattle.execution_scripts.specs.Findings.{IsAsSaid, IsFound, IsJudged, start_of}
use Rattle.execution_scripts.specs.declared.following.Follower.{Follower}
use Rattle.execution_scripts.proofs.Ended.{AreRunning, followed_deeds}
use Rattle.execution_scripts.proofs.Going.{at}

zero_at : (m j : ℕ) → slice_index (replicate m 0) j ≡ 0
zero_at zero j = refl
zero_at (suc m) zero = refl
zero_at (suc m) (suc j) = zero_at m j

-- nothing is done yet, and no number was read
pub opened_on : (c : Course) (m : ℕ) (f : Follower) → IsWay c.image c.start c.asked f.way → map hart_view f.parts.now ≡ c.lines → length c.lines ≤ MOST_HARTS → length (at f).harts ≡ length c.lines →
    (at f).events ≡ [] → (at f).round ≡ 0 → f.used.items ≡ replicate m 0 → m ≡ length c.lines → f.round ≡ 0 → IsOn c 0 f
opened_on c m f way lines few harts events now used count round = record {
  way = way;
  lines = lines;
  few = few;
  harts = harts;
  counts = ap length used ∙ length-replicate m 0 ∙ count;
  reads = λ j l.
      subst (λ (us : List ℕ). HasRead (line_of c.lines j) (numbers_of j (at f).events) (slice_index us j)) (sym used)
      (subst (λ (t : List Event). HasRead (line_of c.lines j) (numbers_of j t) (slice_index (replicate m 0) j)) (sym events)
      (subst (HasRead (line_of c.lines j) []) (sym (zero_at m j)) (record { are = refl; within = omega arith })));
  round = round;
  later = omega (arith, now);
}

opened_done : (entry n i k j : ℕ) → done_of (slice_get (opening_harts entry n i k) j) ≡ 0
opened_done entry n i zero j = refl
opened_done entry n i (suc k) zero = refl
opened_done entry n i (suc k) (suc j) = opened_done entry n (suc i) k j

opened_runs : (entry n i k j : ℕ) → stop_in (slice_get (opening_harts entry n i k) j) ≡ None
opened_runs entry n i zero j = refl
opened_runs entry n i (suc k) zero = refl
opened_runs entry n i (suc k) (suc j) = opened_runs entry n (suc i) k j

pub start_within : (lines : List HartDeeds) (image : Loaded) (input : List ℕ) (n : ℕ) → AreWithin lines (start_of (opening_guest image input n))
start_within lines image input n = λ j. let none = opened_done image.entry n 0 n j in omega (arith, none)

pub start_runs : (image : Loaded) (input : List ℕ) (n : ℕ) → AreRunning 0 (start_of (opening_guest image input n))
start_runs image input n = λ j l. opened_runs image.entry n 0 n j

-- ---- what was followed of a file

abbrev pub course : Loaded → List ℕ → List HartHeld → Option HartStep → Course
course image input ps asked = record {
  image = (opening_guest image input (length ps)).shared.memory;
  start = start_of (opening_guest image input (length ps));
  lines = map hart_view ps;
  asked = asked;
}

pub record HasFollowed (k : Course) (turns : List Turn) (w : Way) : Type 0 where
  pub way : IsWay k.image k.start k.asked w
  pub followed : AreFollowed k.image k.lines turns k.start w.execution.standing
  pub harts : length w.execution.standing.harts ≡ length k.lines

on_file : (image : Loaded) (input input2 : List ℕ) (ps ps2 : List HartHeld) (asked : Option HartStep) (f : Follower) → input ≡ input2 → ps ≡ ps2 → IsOn (course image input ps asked) 0 f →
    IsOn (course image input2 ps2 asked) 0 f
on_file image input input2 ps ps2 asked f same too o =
    subst (λ (i : List ℕ). IsOn (course image i ps2 asked) 0 f) same (subst (λ (xs : List HartHeld). IsOn (course image input xs asked) 0 f) too o)

start_file : (image : Loaded) (input input2 : List ℕ) (ps ps2 : List HartHeld) (f : Follower) → input ≡ input2 → ps ≡ ps2 → at f ≡ start_of (opening_guest image input (length ps)) →
    at f ≡ start_of (opening_guest image input2 (length ps2))
start_file image input input2 ps ps2 f same too o =
    subst (λ (i : List ℕ). at f ≡ start_of (opening_guest image i (length ps2))) same (subst (λ (xs : List HartHeld). at f ≡ start_of (opening_guest image input (length xs))) too o)

within_file : (image : Loaded) (input : List ℕ) (ps : List HartHeld) (f : Follower) → at f ≡ start_of (opening_guest image input (length ps)) → AreWithin (map hart_view ps) (at f)
within_file image input ps f start = subst (AreWithin (map hart_view ps)) (sym start) (start_within (map hart_view ps) image input (length ps))

pub has_followed : (image : Loaded) (input input2 : List ℕ) (ps ps2 : List HartHeld) (us us2 : List TurnHeld) (asked : Option HartStep) (f f' : Follower) (w : Way) → input ≡ input2 → ps ≡ ps2 → us ≡ us2 →
    IsOn (course image input ps asked) 0 f → at f ≡ start_of (opening_guest image input (length ps)) →
    ((k : Course) → IsOn k 0 f → AreWithin k.lines (at f) → at f ≡ k.start → (n : ℕ) × IsOn k n f' × AreFollowed k.image k.lines (map turn_view us) k.start (at f')) → w ≡ f'.way →
    HasFollowed (course image input2 ps2 asked) (map turn_view us2) w
has_followed image input input2 ps ps2 us us2 asked f f' w same too calls o start follows is =
    let k : Course = course image input2 ps2 asked in
    let begun = start_file image input input2 ps ps2 f same too start in
    let r = follows k (on_file image input input2 ps ps2 asked f same too o) (within_file image input2 ps2 f begun) begun in
    subst (HasFollowed k (map turn_view us2)) (sym is) (record {
      way = r.1.way;
      followed = subst (λ (ts : List TurnHeld). AreFollowed k.image k.lines (map turn_view ts) k.start (at f')) calls r.2;
      harts = r.1.harts;
    })

pub has_halted : (image : Loaded) (input input2 : List ℕ) (ps ps2 : List HartHeld) (us us2 : List TurnHeld) (asked : Option HartStep) (f : Follower) (halt : Halt) (x : Fault) → input ≡ input2 → ps ≡ ps2 → us ≡ us2 →
    IsOn (course image input ps asked) 0 f → at f ≡ start_of (opening_guest image input (length ps)) →
    OnFault halt (λ y. (k : Course) → IsOn k 0 f → AreWithin k.lines (at f) → at f ≡ k.start → IsUnfollowed k.image k.lines (map turn_view us) k.start y) → halt ≡ halts.Fault x →
    IsUnfollowed (course image input2 ps2 asked).image (map hart_view ps2) (map turn_view us2) (course image input2 ps2 asked).start x
has_halted image input input2 ps ps2 us us2 asked f halt x same too calls o start w is =
    let k : Course = course image input2 ps2 asked in
    let begun = start_file image input input2 ps ps2 f same too start in
    let P : Fault → Type 0 = λ y. (j : Course) → IsOn j 0 f → AreWithin j.lines (at f) → at f ≡ j.start → IsUnfollowed j.image j.lines (map turn_view us) j.start y in
    let y : P x = subst (λ (h : Halt). OnFault h P) is w in
    subst (λ (ts : List TurnHeld). IsUnfollowed k.image k.lines (map turn_view ts) k.start x) calls
    (y k (on_file image input input2 ps ps2 asked f same too o) (within_file image input2 ps2 f begun) begun)

-- the events of what was followed have their forms, and there are as many instructions
pub followed_formed : (k : Course) (turns : List Turn) (w : Way) → HasFollowed k turns w → k.start.events ≡ [] → length w.execution.memory.bytes ≤ 2 ^ 26 → All HasForm w.execution.standing.events
followed_formed k turns w f none small =
    let empty : All HasForm k.start.events = subst (All HasForm) (sym none) (λ i d l. absurd (omega (arith, l))) in
    let size = f.way.like.size in
    executes_formed k.image k.start w.execution.standing (omega (arith, size, small)) (followed k.image w.script.items k.start w.execution.standing f.way.follows) empty

pub followed_even : (k : Course) (turns : List Turn) (w : Way) → HasFollowed k turns w → length k.start.instructions ≡ length k.start.events →
    length w.execution.standing.instructions ≡ length w.execution.standing.events
followed_even k turns w f even = executes_even k.image k.start w.execution.standing (followed k.image w.script.items k.start w.execution.standing f.way.follows) even

pub ok_all : {X E : Type 0} (r : Result X E) (A B C D Q : X → Type 0) → IfOk r A → IfOk r B → IfOk r C → IfOk r D → ((k : X) → A k → B k → C k → D k → Q k) → IfOk r Q
ok_all (Ok k) A B C D Q a b c d q = q k a b c d
ok_all (Err e) A B C D Q a b c d q = tt

pub found_unfollowed : (g : Guest) (r : Recorded) (asked : Option HartStep) (c : Checked) (x : Fault) → c.finding ≡ findings.Fault x → IsUnfollowed g.shared.memory r.harts r.calls (start_of g) x →
    IsFound g r asked c.finding c
found_unfollowed g r asked c x is u = subst (λ (f : Finding). IsFound g r asked f c) (sym is) (inl u)

pub found_followed : (image : Loaded) (file : ExecutionFile) (asked : Option HartStep) (w : Way) (ps : List Piece) (o : List Laid) (c : Checked) →
    HasFollowed (course image file.input.items file.harts.items asked) (as_recorded file).calls w →
    bytes_from ps 0 (4096 * image.pages) ≡ image.bytes → All (λ (p : Piece). p.start + length p.bytes.items ≤ 4096 * image.pages) ps → o ≡ map laid ps →
    HandsOn w o c → ((v : Verdict) → c.finding ≡ findings.Judged v → Judges v (opening_at o) w.execution.standing c.order.0.items) →
    ((v : Verdict) → c.finding ≡ findings.Judged v → AreNames (as_recorded file).order w.execution.standing.events c.order.0.items) →
    ((x : Fault) → c.finding ≡ findings.Fault x → IsUnnamed (as_recorded file).order w.execution.standing.events x) →
    IsFound (opening_guest image file.input.items (length file.harts.items)) (as_recorded file) asked c.finding c
found_followed image file asked w ps o c f bytes within opened h verdict names none = found_by g r asked c.finding c judged unnamed
  where
    r : Recorded
    r = as_recorded file

    g : Guest
    g = opening_guest image file.input.items (length file.harts.items)

    q : Standing
    q = w.execution.standing

    judged : (v : Verdict) → c.finding ≡ findings.Judged v → IsJudged g r asked v c
    judged v is = record {
      verdict =
          verdict_on image file.input.items (length file.harts.items) ps o g.shared.memory (start_of g) v c.script.items c.order.0.items c.execution.standing bytes within opened refl refl
          (subst (λ (ss : List ScriptedStep). IsVerdict v g.shared.memory (opening_at o) ss c.order.0.items (start_of g) c.execution.standing) (sym h.script)
          (subst (λ (p : Standing). IsVerdict v g.shared.memory (opening_at o) w.script.items c.order.0.items (start_of g) p) (sym h.standing)
          (has_verdict v g.shared.memory (opening_at o) w.script.items c.order.0.items (start_of g) q f.way.follows (verdict v is))));
      followed = subst (AreFollowed g.shared.memory r.harts r.calls (start_of g)) (sym h.standing) f.followed;
      as_said = subst (λ (p : Standing). IsAsSaid r.harts r.order p c.order.0.items) (sym h.standing) (record {
        harts = followed_deeds g.shared.memory r.harts r.calls (start_of g) q f.harts (start_runs image file.input.items (length file.harts.items)) f.followed;
        order = names v is;
      });
      opening = λ x. ap (λ (ls : List Laid). opening_at ls x) (h.opening ∙ opened) ∙ opened_at image ps bytes within x;
      sights =
          subst (λ (x : Sights). AreSights g.shared.memory (start_of g) c.execution.standing asked x) (sym h.sights)
          (subst (λ (p : Standing). AreSights g.shared.memory (start_of g) p asked w.notes.sights) (sym h.standing) f.way.notes.sights);
    }

    unnamed : (x : Fault) → c.finding ≡ findings.Fault x → IsUnsaid g.shared.memory r (start_of g) x
    unnamed x is = inr (record { end = q; followed = f.followed; unnamed = none x is })
