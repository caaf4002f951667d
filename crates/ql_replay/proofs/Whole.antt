-- The answer on a book.
use Rattle.std.proofs.Common.{◌≡◌, ℕ, ◌<◌, ◌≤◌, ◌^◌, ◌==◌, true, false, List, [], ◌∷◌, ◌++◌, map, take, Option, Some, None, refl, sym, ap, ◌∙◌, subst, ⊎_elim, arith, eq-eqb}
use Rattle.std.specs.Prelude.{leb}
use Rattle.std.specs.Str.{bytes_eq}
use Rattle.std.proofs.lemmas.Slice.Eq.{bytes_eq-Decides}
use Rattle.std.proofs.lemmas.Bool.Decides.{nat_tests}
use Rattle.ql_base.specs.declared.limits.Limits.{Limits}
use Rattle.ql_base.specs.Limits.{usual}
use Rattle.ql_world.specs.Event.{Journal, plain, turns}
use Rattle.ql_world.specs.declared.event.Event.{Event}
use Rattle.ql_world.specs.declared.event.Event.TheVariants.{Turn as turn}
use Rattle.ql_world.specs.declared.event.Head.{Head}
use Rattle.ql_world.specs.Text.{line_of, lines_of, head_text, journal_text}
use Rattle.ql_world.specs.Run.{Story, head_of}
use Rattle.ql_code.specs.Code.{Code}
use Rattle.ql_code.specs.Machine.{code_machine, code_world, code_told}
use Rattle.ql_replay.specs.Book.{Line, lines_in, has_feed, AreOneLine, head_line, ReadsTurns, turn_in, head_in}
use Rattle.ql_replay.specs.FirstDiff.{limits_of, IsUsable, HasHead, FirstAmong, HasDiff, least, short, whole, IsTextOf, IsPlainTextOf, headed, beyond, headless, IsJournal, FirstDiff}
use Rattle.ql_replay.specs.Replay.{Verdict, same, host_of, follow, follow_from, due, plain_line, is_within, is_usable, plain_replayed, by_head, lines_replayed, replayed}
use Rattle.ql_replay.specs.Law as law
use Rattle.ql_replay.specs.Law.{IsNeverLost, HasOutput, line_of_verdict, IsRight}
use Rattle.ql_replay.proofs.Basics.{cases, and_both, same_number}
use Rattle.ql_replay.proofs.Feeds.{is_clean, line_clean, plain_line_clean, head_line_clean}
use Rattle.ql_replay.proofs.Reading.{turn_in_reads, head_in_reads}
use Rattle.ql_replay.proofs.Texts.{joined, AllClean, headed_text, plainly_text}
use Rattle.ql_replay.proofs.Right.{IsTold, answer_is_first, answer_output, told_facts}

first_map : (A B : List ℕ → Type 0) (book : List ℕ) → ((t : List ℕ) → A t → B t) → ((t : List ℕ) → B t → A t) → (d : Option ℕ) → FirstAmong A book d → FirstAmong B book d
first_map A B book to from d f = by f
  where
    there : (i : ℕ) → HasDiff A book i → HasDiff B book i
    there i h x = h (x.0, (from x.0 x.1.0, x.1.1))

    here : (i : ℕ) → HasDiff B book i → HasDiff A book i
    here i h x = h (x.0, (to x.0 x.1.0, x.1.1))

    by : {d : Option ℕ} → FirstAmong A book d → FirstAmong B book d
    by (least i o l h n) = least i o l (there i h) (λ j r k x. n j r k (here j x))
    by (short n w) = short (λ j r k x. n j r k (here j x)) (λ x. w (from book x))
    by (whole n w) = whole (λ j r k x. n j r k (here j x)) (to book w)

usable_of : (h : Head) → is_usable h ≡ true → IsUsable h
usable_of h e =
    let a = and_both _ _ e in
    let b = and_both _ _ a.0 in
    let c = and_both (is_within 20000000 h.budget) (is_within 4000000 h.cells) b.0 in
    let x = within 20000000 h.budget c.0 in
    let y = within 4000000 h.cells c.1 in
    record { budget_low = x.0; budget_high = x.1; cells_low = y.0; cells_high = y.1; procs = same_number h.procs 65535 b.1; output = same_number h.output 16777216 a.1 }
  where
    within : (most n : ℕ) → is_within most n ≡ true → (1 ≤ n) × (n ≤ most)
    within most n e = let b = and_both (leb 1 n) (leb n most) e in (low 1 n b.0, low n most b.1)
      where
        low : (i j : ℕ) → leb i j ≡ true → i ≤ j
        low i j h = grind (arith, nat_tests)

is_usable_of : (h : Head) → IsUsable h → is_usable h ≡ true
is_usable_of h u =
    let a : leb 1 h.budget ≡ true = high 1 h.budget u.budget_low in
    let b : leb h.budget 20000000 ≡ true = high h.budget 20000000 u.budget_high in
    let c : leb 1 h.cells ≡ true = high 1 h.cells u.cells_low in
    let d : leb h.cells 4000000 ≡ true = high h.cells 4000000 u.cells_high in
    let e : (h.procs == 65535) ≡ true = eq-eqb h.procs 65535 u.procs in
    let f : (h.output == 16777216) ≡ true = eq-eqb h.output 16777216 u.output in
    rw (a, b, c, d, e, f) refl
  where
    high : (i j : ℕ) → i ≤ j → leb i j ≡ true
    high i j h = grind (arith, nat_tests)

journal_headed : (j : Journal) (h : Head) → j.head ≡ Some h → journal_text j ≡ joined (head_line h ∷ map line_of j.events)
journal_headed j h e = ap (λ (o : Option Head). head_text o ++ lines_of j.events) e ∙ headed_text h j.events

module _ (names : List (List ℕ)) (one : AreOneLine names) (code : Code) (lost : (limits : Limits) → IsNeverLost names code limits) (book : List ℕ) where
  abbrev T : Limits → List ℕ → Option Story
  T = code_told names code

  abbrev read : List ℕ → Option (ℕ × ℕ)
  read = turn_in

  reads : ReadsTurns turn_in
  reads = turn_in_reads

  -- ---- version 1
  module _ (limits : Limits) (low : limits.budget < 2 ^ 64) (low_procs : limits.procs < 2 ^ 32) (some_procs : 1 ≤ limits.procs)
      (line : Event → List ℕ) (turns_so : (p n : ℕ) → line (turn p n) ≡ line_of (turn p n)) (clean : (e : Event) → is_clean e ≡ true → has_feed (line e) ≡ false)
      (before : List (List ℕ)) (before_clean : AllClean before) where
    abbrev Told : List ℕ → List ℕ → Type 0
    Told text out =
        IsTold (code_machine code.instructions) names one limits (code_world code) (lost limits) refl refl some_procs low low_procs line turns_so clean read reads before before_clean text out

    abbrev Answer : Verdict
    Answer = follow (host_of (code_machine code.instructions) names limits) line read (code_world code)
        (before ++ due (host_of (code_machine code.instructions) names limits) line read (code_world code)) (lines_in book) 1

    first_of : FirstAmong (λ text. (out : List ℕ) × Told text out) book (line_of_verdict Answer)
    first_of =
        answer_is_first (code_machine code.instructions) names one limits (code_world code) (lost limits) refl refl some_procs low low_procs line turns_so clean read reads before before_clean book

    output_of : (out : List ℕ) → Answer ≡ same out → Told book out
    output_of out h =
        answer_output (code_machine code.instructions) names one limits (code_world code) (lost limits) refl refl some_procs low low_procs line turns_so clean read reads before before_clean book out h

    schedule_of : (text out : List ℕ) (t : Told text out) → (turns t.story.journal.events ≡ t.schedule) × (t.story.journal.head ≡ Some (head_of limits))
    schedule_of text out t =
        let f = told_facts (code_machine code.instructions) names one limits (code_world code) (lost limits) refl refl some_procs low low_procs line turns_so clean read reads before before_clean t.schedule t.story t.told in
        (f.schedule, f.head)

  -- ---- version 1
  abbrev plain_clean : (e : Event) → is_clean e ≡ true → has_feed (plain_line e) ≡ false
  plain_clean e h = plain_line_clean e

  PlainTold : List ℕ → List ℕ → Type 0
  PlainTold text out = Told usual (omega arith) (omega arith) (omega arith) plain_line (λ p n. refl) plain_clean [] tt text out

  plain_answer : List Line → Verdict
  plain_answer ls = plain_replayed names code ls

  plain_first : FirstAmong (IsPlainTextOf T usual) book (line_of_verdict (plain_replayed names code (lines_in book)))
  plain_first =
      first_map _ _ book
      (λ text x. let t = x.1 in (t.story.journal, (record { schedule = t.schedule; story = t.story; is_told = t.told; is = refl }, t.text_is ∙ sym (plainly_text t.story.journal))))
      (λ text x. let j = x.1.0 in (
        j.story.output,
        record {
          schedule = j.schedule;
          story = j.story;
          told = j.is_told;
          text_is = x.1.1 ∙ (ap (λ (i : Journal). journal_text (plain i)) j.is ∙ plainly_text j.story.journal);
          output_is = refl;
        },
      ))
      _ (first_of usual (omega arith) (omega arith) (omega arith) plain_line (λ p n. refl) plain_clean [] tt)

  plain_output : (out : List ℕ) → ((h : Head) → ¬ HasHead book h) → plain_replayed names code (lines_in book) ≡ same out → HasOutput T book out
  plain_output out none e =
      let t = output_of usual (omega arith) (omega arith) (omega arith) plain_line (λ p n. refl) plain_clean [] tt out e in
      let s = schedule_of usual (omega arith) (omega arith) (omega arith) plain_line (λ p n. refl) plain_clean [] tt book out t in
      law.headless none t.story (ap (code_told names code usual) s.0 ∙ t.told) (t.text_is ∙ sym (plainly_text t.story.journal)) t.output_is

  plain_right : ((h : Head) → ¬ HasHead book h) → (ls : List Line) → lines_in book ≡ ls → IsRight T book (plain_replayed names code ls)
  plain_right none ls e =
      subst (λ z. IsRight T book (plain_replayed names code z)) e
      (record { first = headless none _ plain_first; output = λ out h. plain_output out none h })

  -- ---- version 2
  module _ (h : Head) (usable : IsUsable h) (has : HasHead book h) (ls : List Line) (is : lines_in book ≡ Some (head_line h) ∷ ls) where
    abbrev limits : Limits
    limits = limits_of h

    low : limits.budget < 2 ^ 64
    low = let l : h.budget ≤ 20000000 = usable.budget_high in omega (arith, l)

    low_procs : limits.procs < 2 ^ 32
    low_procs = let e : h.procs ≡ 65535 = usable.procs in omega (arith, e)

    some_procs : 1 ≤ limits.procs
    some_procs = let e : h.procs ≡ 65535 = usable.procs in omega (arith, e)

    before_clean : AllClean (head_line h ∷ [])
    before_clean = (head_line_clean h, tt)

    abbrev after_head : Verdict
    after_head = follow_from (host_of (code_machine code.instructions) names limits) line_of read (code_world code) ls 2

    abbrev A : Verdict
    A = Answer limits low low_procs some_procs line_of (λ p n. refl) line_clean (head_line h ∷ []) before_clean

    same_answer : A ≡ after_head
    same_answer = ap (λ (z : List Line). follow (host_of (code_machine code.instructions) names limits) line_of read (code_world code)
        (head_line h ∷ due (host_of (code_machine code.instructions) names limits) line_of read (code_world code)) z 1) is ∙ skips (head_line h) refl
      where
        skips : (l : List ℕ) → l ≡ head_line h → follow (host_of (code_machine code.instructions) names limits) line_of read (code_world code)
            (l ∷ due (host_of (code_machine code.instructions) names limits) line_of read (code_world code)) (Some l ∷ ls) 1 ≡ after_head
        skips l e = let t : bytes_eq l l ≡ true = (bytes_eq-Decides l l).1 refl in rw t refl

    headed_first : FirstAmong (IsTextOf T limits) book (line_of_verdict after_head)
    headed_first =
        subst (λ v. FirstAmong (IsTextOf T limits) book (line_of_verdict v)) same_answer
        (first_map _ _ book
        (λ text x. let t = x.1 in
        let s = schedule_of limits low low_procs some_procs line_of (λ p n. refl) line_clean (head_line h ∷ []) before_clean text x.0 t in
        (t.story.journal, (record { schedule = t.schedule; story = t.story; is_told = t.told; is = refl }, t.text_is ∙ sym (journal_headed t.story.journal h s.1))))
        (λ text x. let j = x.1.0 in
        let s = told_facts (code_machine code.instructions) names one limits (code_world code) (lost limits) refl refl some_procs low low_procs line_of (λ p n. refl) line_clean read reads (head_line h ∷ []) before_clean j.schedule j.story j.is_told in (
          j.story.output,
          record {
            schedule = j.schedule;
            story = j.story;
            told = j.is_told;
            text_is = x.1.1 ∙ (ap journal_text j.is ∙ journal_headed j.story.journal h s.head);
            output_is = refl;
          },
        ))
        _ (first_of limits low low_procs some_procs line_of (λ p n. refl) line_clean (head_line h ∷ []) before_clean))

    headed_output : (out : List ℕ) → after_head ≡ same out → HasOutput T book out
    headed_output out e =
        let t = output_of limits low low_procs some_procs line_of (λ p n. refl) line_clean (head_line h ∷ []) before_clean out (same_answer ∙ e) in
        let s = schedule_of limits low low_procs some_procs line_of (λ p n. refl) line_clean (head_line h ∷ []) before_clean book out t in
        law.headed h has usable t.story (ap (code_told names code limits) s.0 ∙ t.told) (t.text_is ∙ sym (journal_headed t.story.journal h s.1)) t.output_is

    headed_right : IsRight T book after_head
    headed_right = record { first = headed h has usable _ headed_first; output = headed_output }

  -- ---- by the first line
  by_reading : (l : List ℕ) (ls : List Line) → lines_in book ≡ Some l ∷ ls → (o : Option Head) → head_in l ≡ o
      → IsRight T book (by_head names code (Some l ∷ ls) ls o)
  by_reading l ls e None r = plain_right none (Some l ∷ ls) e
    where
      none : (h : Head) → ¬ HasHead book h
      none h x =
          let a : take 1 (lines_in book) ≡ Some (head_line h) ∷ [] = x.first in
          let b : Some l ∷ [] ≡ Some (head_line h) ∷ [] = ap (take 1) (sym e) ∙ a in
          let c : l ≡ head_line h = cc in
          let d : head_in (head_line h) ≡ Some h = head_in_reads.reads h x.low in
          let f : head_in (head_line h) ≡ None = subst (λ z. head_in z ≡ None) c r in
          absurd cc
  by_reading l ls e (Some h) r =
      let c : l ≡ head_line h = head_in_reads.says l h r in
      let f : lines_in book ≡ Some (head_line h) ∷ ls = e ∙ ap (λ z. Some z ∷ ls) c in
      let has : HasHead book h = record { first = ap (take 1) f; low = head_in_reads.low l h r } in
      ⊎_elim (λ (t : is_usable h ≡ true). rw t (headed_right h (usable_of h t) has ls f))
      (λ (t : is_usable h ≡ false). rw t (record {
        first = beyond h has (λ u. let v : is_usable h ≡ true = is_usable_of h u in absurd cc);
        output = λ out x. absurd cc;
      }))
      (cases (is_usable h))

  by_lines : (ls : List Line) → lines_in book ≡ ls → IsRight T book (lines_replayed names code ls)
  by_lines [] e = plain_right (λ h x. let a : take 1 (lines_in book) ≡ Some (head_line h) ∷ [] = x.first in let b : take 1 (lines_in book) ≡ [] = ap (take 1) e in absurd cc) [] e
  by_lines (None ∷ ls) e =
      plain_right (λ h x. let a : take 1 (lines_in book) ≡ Some (head_line h) ∷ [] = x.first in let b : take 1 (lines_in book) ≡ None ∷ [] = ap (take 1) e in absurd cc) (None ∷ ls) e
  by_lines (Some l ∷ ls) e = by_reading l ls e (head_in l) refl

  book_right : IsRight T book (replayed names code book)
  book_right = by_lines (lines_in book) refl

pub replay_right : (names : List (List ℕ)) → AreOneLine names → (code : Code) → ((limits : Limits) → IsNeverLost names code limits)
    → (book : List ℕ) → IsRight (code_told names code) book (replayed names code book)
replay_right names one code lost book = book_right names one code lost book

-- ---- what is told alike has the same first line

module _ (f g : Limits → List ℕ → Option Story) (alike : (limits : Limits) (schedule : List ℕ) → f limits schedule ≡ g limits schedule) where
  journal_alike : (limits : Limits) (j : Journal) → IsJournal f limits j → IsJournal g limits j
  journal_alike limits j x = record { schedule = x.schedule; story = x.story; is_told = sym (alike limits x.schedule) ∙ x.is_told; is = x.is }

  journal_back : (limits : Limits) (j : Journal) → IsJournal g limits j → IsJournal f limits j
  journal_back limits j x = record { schedule = x.schedule; story = x.story; is_told = alike limits x.schedule ∙ x.is_told; is = x.is }

  pub first_alike : (book : List ℕ) (d : Option ℕ) → FirstDiff f book d → FirstDiff g book d
  first_alike book d (headed h has usable _ x) =
      headed h has usable d (first_map _ _ book (λ text y. (y.0, (journal_alike (limits_of h) y.0 y.1.0, y.1.1))) (λ text y. (y.0, (journal_back (limits_of h) y.0 y.1.0, y.1.1))) d x)
  first_alike book d (beyond h has not) = beyond h has not
  first_alike book d (headless none _ x) =
      headless none d (first_map _ _ book (λ text y. (y.0, (journal_alike usual y.0 y.1.0, y.1.1))) (λ text y. (y.0, (journal_back usual y.0 y.1.0, y.1.1))) d x)

  output_alike : (book out : List ℕ) → HasOutput f book out → HasOutput g book out
  output_alike book out (law.headed h has usable story told text is) = law.headed h has usable story (sym (alike _ _) ∙ told) text is
  output_alike book out (law.headless none story told text is) = law.headless none story (sym (alike _ _) ∙ told) text is

  pub right_alike : (book : List ℕ) (v : Verdict) → IsRight f book v → IsRight g book v
  right_alike book v x = record { first = first_alike book (line_of_verdict v) x.first; output = λ out e. output_alike book out (x.output out e) }
