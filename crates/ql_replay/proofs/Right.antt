-- Following a book tells the first line at which it differs from the journals of a machine.
use Rattle.std.proofs.Common.{◌≡◌, ℕ, zero, suc, ◌<◌, ◌≤◌, ◌^◌, true, false, List, [], ◌∷◌, ◌++◌, length, map, take, Option, Some, None, refl, sym, ap, ◌∙◌, subst, arith, append_assoc, append-nil}
use Rattle.std.specs.Prelude.{is_some, option_map, option_and_then, reverse}
use Rattle.std.proofs.lemmas.List.{reverse-append, map-append}
use Rattle.ql_base.specs.declared.limits.Limits.{Limits}
use Rattle.ql_world.specs.Event.{turns}
use Rattle.ql_world.specs.declared.event.Event.{Event}
use Rattle.ql_world.specs.declared.event.Stop.{Stop}
use Rattle.ql_world.specs.declared.event.Event.TheVariants.{Turn as turn, Stopped as stopped}
use Rattle.ql_world.specs.World.{World}
use Rattle.ql_world.specs.Machine.{Machine}
use Rattle.ql_world.specs.Text.{line_of}
use Rattle.ql_world.specs.Run.{Story, head_of, stop_of, run, story_of, told}
use Rattle.ql_replay.specs.Book.{Line, lines_in, TextBegins, has_feed, AreOneLine, ReadsTurns}
use Rattle.ql_replay.specs.FirstDiff.{FirstAmong}
use Rattle.ql_replay.specs.Law.{line_of_verdict}
use Rattle.ql_replay.specs.Replay.{Host, Verdict, same, stop_lines, due, of_turn, follow, goes_on, since_turn}
use Rattle.ql_replay.proofs.Basics.{and_both, then_some, same_some, some_of}
use Rattle.ql_replay.proofs.Feeds.{is_clean}
use Rattle.ql_replay.proofs.Turns.{Laws, lines_told, IsWhole}
use Rattle.ql_replay.proofs.Ends.{run_on, first_step, Ends, run_ends, ends_run}
use Rattle.ql_replay.proofs.FollowRight.{Begins, IsAnswer, Possible, Exact, follow_right}
use Rattle.ql_replay.proofs.Hosts.{all_clean, H, NeverLost, run_same, Good, left, laws, low_numbers}
use Rattle.ql_replay.proofs.Spelled.{turns_calm, turns_ticked, turns_stopped}
use Rattle.ql_replay.proofs.Texts.{joined, AllClean, text_begins, begins_book, lines_joined, joined_lines, first_among}

map_some : {A B : Type 0} (f : A → B) (o : Option A) (y : B) → option_map f o ≡ Some y → (x : A) × ((o ≡ Some x) × (f x ≡ y))
map_some f None y h = absurd cc
map_some f (Some x) y h = (x, (refl, same_some (f x) y h))

begins_fewer : (ds : List (List ℕ)) (ks : List Line) (i j : ℕ) → j ≤ i → Begins ds (take i ks) → Begins ds (take j ks)
begins_fewer ds ks i zero l h = tt
begins_fewer ds ks zero (suc j) l h = absurd (omega (arith, l))
begins_fewer ds [] (suc i) (suc j) l h = h
begins_fewer ds (None ∷ ks) (suc i) (suc j) l h = absurd h
begins_fewer [] (Some k ∷ ks) (suc i) (suc j) l h = absurd h
begins_fewer (d ∷ ds) (Some k ∷ ks) (suc i) (suc j) l h = (h.0, begins_fewer ds ks i j (omega (arith, l)) h.1)

begins_all : (ds : List (List ℕ)) (i : ℕ) → Begins ds (take i (map Some ds))
begins_all ds zero = tt
begins_all [] (suc i) = tt
begins_all (d ∷ ds) (suc i) = (refl, begins_all ds i)

clean_both : (xs ys : List (List ℕ)) → AllClean xs → AllClean ys → AllClean (xs ++ ys)
clean_both [] ys h k = k
clean_both (x ∷ xs) ys h k = (h.0, clean_both xs ys h.1 k)

module _ (line : Event → List ℕ) (line_clean : (e : Event) → is_clean e ≡ true → has_feed (line e) ≡ false) where
  clean_lines : (es : List Event) → all_clean es ≡ true → AllClean (map line es)
  clean_lines [] h = tt
  clean_lines (e ∷ es) h = let b = and_both (is_clean e) (all_clean es) h in (line_clean e b.0, clean_lines es b.1)

  clean_parts : (xs ys : List Event) → all_clean xs ≡ true → all_clean ys ≡ true → all_clean (xs ++ ys) ≡ true
  clean_parts [] ys h k = k
  clean_parts (x ∷ xs) ys h k = let b = and_both (is_clean x) (all_clean xs) h in let c = b.0 in rw c (clean_parts xs ys b.1 k)

  clean_reverse : (es : List Event) → all_clean es ≡ true → all_clean (reverse es) ≡ true
  clean_reverse [] h = refl
  clean_reverse (e ∷ es) h =
      let b = and_both (is_clean e) (all_clean es) h in
      let c = b.0 in
      subst (λ z. all_clean z ≡ true) (sym (reverse-append (e ∷ []) es)) (clean_parts (reverse es) (e ∷ []) (clean_reverse es b.1) (rw c refl))

module _ {P K : Type 0} (m : Machine P K) (names : List (List ℕ)) (one : AreOneLine names) (limits : Limits) (start : World P K) (lost : NeverLost m names one limits start)
    (no_events : start.events ≡ []) (no_ticks : start.ticks ≡ 0) (few : length start.procs ≤ limits.procs) (low : limits.budget < 2 ^ 64) (low_procs : limits.procs < 2 ^ 32)
    (line : Event → List ℕ) (line_turn : (p n : ℕ) → line (turn p n) ≡ line_of (turn p n)) (line_clean : (e : Event) → is_clean e ≡ true → has_feed (line e) ≡ false)
    (read : List ℕ → Option (ℕ × ℕ)) (reads : ReadsTurns read) (before : List (List ℕ)) (before_clean : AllClean before) where
  abbrev W : Type 0
  W = World P K

  abbrev host : Host W
  host = H m names one limits start

  abbrev G : W → Type 0
  G w = Good m names one limits start w

  abbrev L : Laws host G (left m names one limits start)
  L = laws m names one limits start lost

  -- the text of a run with this output
  pub record IsTold (text out : List ℕ) : Type 0 where
    pub schedule : List ℕ
    pub story : Story
    pub told : told m names limits start schedule ≡ Some story
    pub text_is : text ≡ joined (before ++ map line story.journal.events)
    pub output_is : out ≡ story.output

  abbrev pub IsText : List ℕ → Type 0
  IsText text = (out : List ℕ) × IsTold text out

  good_start : G start
  good_start = record { schedule = []; reached = refl; ticks = omega (arith, no_ticks); procs = few; clean = subst (λ z. all_clean z ≡ true) (sym no_events) refl }

  whole_start : IsWhole host line read start
  whole_start p h = let e : goes_on p (start.events) ≡ false = ap (goes_on p) no_events in absurd cc

  good_run : (ps : List ℕ) (w z : W) → G w → run_on host w ps ≡ Some z → G z
  good_run [] w z g r = subst G (same_some w z r) g
  good_run (p ∷ ps) w z g r = let x = first_step host w z p ps r in good_run ps x.after z (L.keeps w x.after p g x.runs x.ticks) x.rest

  abbrev due_first : List (List ℕ)
  due_first = due host line read start

  told_first : lines_told host line read start ≡ due_first
  told_first = by_events start.events no_events
    where
      by_events : (es : List Event) → es ≡ [] → map line (reverse es) ++ stop_lines host line read (host.stop start) ≡ map line (reverse (since_turn es)) ++ stop_lines host line read (host.stop start)
      by_events [] h = refl
      by_events (e ∷ es) h = absurd cc

  story_lines : (z : W) (s : Stop) → host.stop z ≡ Some s → map line (story_of m names limits z s).journal.events ≡ lines_told host line read z
  story_lines z s h =
      ap (map line) (reverse-append (stopped s ∷ []) z.events)
      ∙ (map-append line (reverse z.events) (stopped s ∷ []) ∙ ap (λ (o : Option Stop). map line (reverse z.events) ++ stop_lines host line read o) (sym h))

  clean_told : (z : W) → G z → AllClean (lines_told host line read z)
  clean_told z g =
      clean_both (map line (reverse z.events)) (stop_lines host line read (host.stop z)) (clean_lines line line_clean (reverse z.events) (clean_reverse line line_clean z.events g.clean)) (of_stop (host.stop z))
    where
      of_stop : (o : Option Stop) → AllClean (stop_lines host line read o)
      of_stop None = tt
      of_stop (Some s) = (line_clean (stopped s) refl, tt)

  -- a run that has stopped, as lines
  pub record Lines (text out : List ℕ) : Type 0 where
    pub more : List (List ℕ)
    pub ends : Ends host line read start more out
    pub text_is : text ≡ joined ((before ++ due_first) ++ more)
    pub clean : AllClean ((before ++ due_first) ++ more)

  lines_of_told : (text out : List ℕ) → IsTold text out → Lines text out
  lines_of_told text out t =
      let x = then_some (λ v. option_map (story_of m names limits v) (stop_of m names limits v)) (run m names limits start t.schedule) t.story t.told in
      let z = x.0 in
      let y = map_some (story_of m names limits z) (stop_of m names limits z) t.story x.1.1 in
      let r : run_on host start t.schedule ≡ Some z = run_same m names one limits start t.schedule start ∙ x.1.0 in
      let s : is_some (host.stop z) ≡ true = ap is_some y.1.0 in
      let e = run_ends host line read G (left m names one limits start) L t.schedule start z good_start no_events r s in
      let told_lines : map line t.story.journal.events ≡ lines_told host line read z = ap (λ (u : Story). map line u.journal.events) (sym y.1.1) ∙ story_lines z y.0 y.1.0 in
      let more_lines : lines_told host line read z ≡ due_first ++ e.0 = e.1.1 ∙ ap (λ (l : List (List ℕ)). l ++ e.0) told_first in
      let whole_lines : before ++ map line t.story.journal.events ≡ (before ++ due_first) ++ e.0 =
      ap (λ (l : List (List ℕ)). before ++ l) (told_lines ∙ more_lines) ∙ sym (append_assoc before due_first e.0) in
      record {
        more = e.0;
        ends = subst (λ o. Ends host line read start e.0 o) (ap (λ (u : Story). u.output) y.1.1 ∙ sym t.output_is) e.1.0;
        text_is = t.text_is ∙ ap joined whole_lines;
        clean =
            subst AllClean whole_lines (clean_both before (map line t.story.journal.events) before_clean
            (subst AllClean (sym told_lines) (clean_told z (good_run t.schedule start z good_start r))));
      }

  turns_run : (ps : List ℕ) (w z : W) → G w → run_on host w ps ≡ Some z → turns (reverse z.events) ≡ turns (reverse w.events) ++ ps
  turns_run [] w z g r = ap (λ (v : W). turns (reverse v.events)) (sym (same_some w z r)) ∙ sym (append-nil (turns (reverse w.events)))
  turns_run (p ∷ ps) w z g r =
      let x = first_step host w z p ps r in
      let a = L.adds w x.after p g x.runs x.ticks in
      let b : turns (reverse x.after.events) ≡ turns (reverse w.events) ++ p ∷ [] =
      ap (λ (l : List Event). turns (reverse l)) a.1.0 ∙ (turns_calm a.0 _ a.1.1 ∙ turns_ticked p w.events) in
      turns_run ps x.after z (L.keeps w x.after p g x.runs x.ticks) x.rest
      ∙ (ap (λ (l : List ℕ). l ++ ps) b ∙ append_assoc (turns (reverse w.events)) (p ∷ []) ps)

  -- the journal of a story spells its schedule, and tells the limits
  pub record Spells (ps : List ℕ) (story : Story) : Type 0 where
    pub schedule : turns story.journal.events ≡ ps
    pub head : story.journal.head ≡ Some (head_of limits)

  pub told_facts : (ps : List ℕ) (story : Story) → told m names limits start ps ≡ Some story → Spells ps story
  told_facts ps story t =
      let x = then_some (λ v. option_map (story_of m names limits v) (stop_of m names limits v)) (run m names limits start ps) story t in
      let z = x.0 in
      let y = map_some (story_of m names limits z) (stop_of m names limits z) story x.1.1 in
      let r : run_on host start ps ≡ Some z = run_same m names one limits start ps start ∙ x.1.0 in
      let e : turns (reverse start.events) ≡ [] = ap (λ (l : List Event). turns (reverse l)) no_events in
      record {
        schedule = ap (λ (u : Story). turns u.journal.events) (sym y.1.1) ∙ (turns_stopped y.0 z.events ∙ (turns_run ps start z good_start r ∙ ap (λ (l : List ℕ). l ++ ps) e));
        head = ap (λ (u : Story). u.journal.head) (sym y.1.1);
      }

  told_is : (ps : List ℕ) (z : W) (s : Stop) → run m names limits start ps ≡ Some z → stop_of m names limits z ≡ Some s → told m names limits start ps ≡ Some (story_of m names limits z s)
  told_is ps z s r h =
      ap (option_and_then (λ v. option_map (story_of m names limits v) (stop_of m names limits v))) r ∙ ap (option_map (story_of m names limits z)) h

  told_of_ends : (more : List (List ℕ)) (out : List ℕ) → Ends host line read start more out → IsTold (joined ((before ++ due_first) ++ more)) out
  told_of_ends more out e =
      let r = ends_run host line read G (left m names one limits start) L start more out good_start e in
      let s = some_of (host.stop r.after) r.stopped in
      let runs : run m names limits start r.schedule ≡ Some r.after = sym (run_same m names one limits start r.schedule start) ∙ r.runs in
      let stop : stop_of m names limits r.after ≡ Some s.0 = s.1 in
      let lines : map line (story_of m names limits r.after s.0).journal.events ≡ due_first ++ more =
      story_lines r.after s.0 stop ∙ (r.told ∙ ap (λ (l : List (List ℕ)). l ++ more) told_first) in
      record {
        schedule = r.schedule;
        story = story_of m names limits r.after s.0;
        told = told_is r.schedule r.after s.0 runs stop;
        text_is = ap joined (append_assoc before due_first more ∙ ap (λ (l : List (List ℕ)). before ++ l) (sym lines));
        output_is = sym r.output;
      }

  reads_turn : (w v : W) (p n : ℕ) → G w → of_turn host w p n ≡ Some v → read (line (turn p n)) ≡ Some (p, n)
  reads_turn w v p n g h =
      let x = low_numbers m names one limits start lost line read w v p n g h in
      let a : p ≤ limits.procs = x.0 in
      let b : 1 ≤ n = x.1.0 in
      let c : n ≤ limits.budget = x.1.1 in
      let d : p < 2 ^ 32 = omega (arith, a, low_procs) in
      let e : n < 2 ^ 64 = omega (arith, c, low) in
      ap read (line_turn p n) ∙ reads.reads p n d b e

  says_turn : (l : List ℕ) (p n : ℕ) → read l ≡ Some (p, n) → l ≡ line (turn p n)
  says_turn l p n h = reads.says l p n h ∙ sym (line_turn p n)

  abbrev pub answer : List ℕ → Verdict
  answer book = follow host line read start (before ++ due_first) (lines_in book) 1

  abbrev Can : List Line → Type 0
  Can ks = Possible host line read start (before ++ due_first) ks

  abbrev Is : List Line → List ℕ → Type 0
  Is ks out = Exact host line read start (before ++ due_first) ks out

  module _ (book : List ℕ) where
    followed : IsAnswer Can Is (lines_in book) 1 (answer book)
    followed = follow_right host line read G (left m names one limits start) L says_turn reads_turn (lines_in book) start (before ++ due_first) 1 good_start whole_start

    told_of_exact : (out : List ℕ) → Is (lines_in book) out → IsTold book out
    told_of_exact out h =
        subst (λ t. IsTold t out) (sym (joined_lines book ((before ++ due_first) ++ h.0) h.1.1)) (told_of_ends h.0 out h.1.0)

    pub answer_is_first : FirstAmong IsText book (line_of_verdict (answer book))
    answer_is_first =
        first_among IsText book Can Is
        (λ ks h. (joined ((before ++ due_first) ++ h.0), ((h.1.0, told_of_ends h.0 h.1.0 h.1.1.0), text_begins ((before ++ due_first) ++ h.0) ks h.1.1.1)))
        (λ i text t b. let l = lines_of_told text t.0 t.1 in
        (l.more, (t.0, (l.ends, begins_book ((before ++ due_first) ++ l.more) book i l.clean (subst (λ z. TextBegins z (take i (lines_in book))) l.text_is b)))))
        (λ out h. (out, told_of_exact out h))
        (λ t. let l = lines_of_told book t.0 t.1 in (t.0, (l.more, (l.ends, ap lines_in l.text_is ∙ lines_joined ((before ++ due_first) ++ l.more) l.clean))))
        (λ i j l h. (h.0, (h.1.0, (h.1.1.0, begins_fewer ((before ++ due_first) ++ h.0) (lines_in book) i j l h.1.1.1))))
        (λ i out h. (h.0, (out, (h.1.0, subst (λ z. Begins ((before ++ due_first) ++ h.0) (take i z)) (sym h.1.1) (begins_all ((before ++ due_first) ++ h.0) i)))))
        (answer book) followed

    pub answer_output : (out : List ℕ) → answer book ≡ same out → IsTold book out
    answer_output out h = told_of_exact out (subst (λ v. IsAnswer Can Is (lines_in book) 1 v) h followed)
