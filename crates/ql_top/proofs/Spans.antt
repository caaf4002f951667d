-- What the reading of a book and its span answer.
use Rattle.std.proofs.Common.{◌≡◌, ◌≤◌, ◌<◌, ◌+◌, ◌++◌, ℕ, List, [], length, Option, Some, refl, sym, arith, append-nil, length-append}
use Rattle.ql_world.specs.Event.{Journal}
use Rattle.ql_journal.specs.Grammar.{Judges, Verdict, spells, bad_line, no_stop}
use Rattle.ql_replay.specs.Following.{feeds}
use Rattle.ql_top.specs.Acts.{SpansSome}
use Rattle.ql_top.specs.Book.{most, IsTooMuch, StopsBook}
use Rattle.ql_top.specs.Reading.{Takes}
use Rattle.ql_top.specs.Span.{BadBook, big_book, by_line, by_end, HasSpan, StopsSpan, AnswersSpan}
use Rattle.ql_top.specs.Top.{Shows}
use Rattle.ql_top.specs.declared.status.Status.{Status}
use Rattle.ql_top.specs.declared.status.Status.TheVariants.{Done, Refused, Words, Fault, Budget, Deadlock, Limit, NoMemory, ReadFault, WriteFault, Differs}

-- ---- a book that is held as a whole

-- one more piece of what isn't too much yet
pub too_much : (bytes piece : List ℕ) (start left next : Option (List ℕ)) → length bytes ≤ most → length piece ≤ 4096 → Takes (bytes ++ piece) start next
    → most < length (bytes ++ piece) → IsTooMuch start next
too_much bytes piece start left next few small t many =
    let both : length (bytes ++ piece) ≡ length bytes + length piece = length-append bytes piece in
    record { taken = bytes ++ piece; takes = t; many = many; near = omega (arith, both, few, small) }

no_other : (book : List ℕ) → most < length book → (k n : ℕ) → BadBook book k n → (k ≡ 22) × (n ≡ most)
no_other book many k n (big_book h) = (refl, refl)
no_other book many k n (by_line few j) = absurd (omega (arith, many, few))
no_other book many k n (by_end few j) = absurd (omega (arith, many, few))

too_long : (book book' o : Option (List ℕ)) → IsTooMuch book book' → SpansSome (Refused 22 most) book book' o o
too_long book book' o h = record {
  taken = h.taken;
  takes = h.takes;
  holds = λ rest e.
      let both : length (h.taken ++ rest) ≡ length h.taken + length rest = length-append h.taken rest in
      let many : most < length (h.taken ++ rest) = omega (arith, both, h.many) in
      record {
        is = record { bad = big_book many; only = no_other (h.taken ++ rest) many };
        taken = h.taken;
        rest = rest;
        parts = refl;
        is_left = refl;
        near = h.near;
        whole = λ low. absurd (omega (arith, low));
      };
}

-- reading ended early
pub stopped_span : (status : Status) (book book' o : Option (List ℕ)) → StopsBook status book book' → SpansSome status book book' o o
stopped_span (Refused kind at) book book' o h = rw (h.0, h.1) (too_long book book' o h.2)
stopped_span NoMemory book book' o h = record { taken = h.0; takes = h.1; holds = λ rest e. tt }
stopped_span ReadFault book book' o h = record {
  taken = h.0;
  takes = h.1.takes;
  holds = λ rest e. record { taken = h.0; rest = rest; parts = refl; is_left = refl; few = h.1.few };
}
stopped_span Done book book' o h = absurd h
stopped_span Words book book' o h = absurd h
stopped_span (Fault kind p at) book book' o h = absurd h
stopped_span Budget book book' o h = absurd h
stopped_span Deadlock book book' o h = absurd h
stopped_span (Limit kind) book book' o h = absurd h
stopped_span WriteFault book book' o h = absurd h
stopped_span (Differs line) book book' o h = absurd h

-- ---- what is found in it

-- nothing
pub bad_whole : (bytes : List ℕ) → length bytes ≤ most → (o : Option (List ℕ)) (status : Status) → StopsSpan status bytes → AnswersSpan status bytes (Some []) o o
bad_whole bytes few o (Refused kind at) f = record {
  is = f;
  taken = bytes;
  rest = [];
  parts = sym (append-nil bytes);
  is_left = refl;
  near = omega (arith, few);
  whole = λ low. refl;
}
bad_whole bytes few o NoMemory f = tt
bad_whole bytes few o Done f = absurd f
bad_whole bytes few o ReadFault f = absurd f
bad_whole bytes few o Words f = absurd f
bad_whole bytes few o (Fault kind p at) f = absurd f
bad_whole bytes few o Budget f = absurd f
bad_whole bytes few o Deadlock f = absurd f
bad_whole bytes few o (Limit kind) f = absurd f
bad_whole bytes few o WriteFault f = absurd f
bad_whole bytes few o (Differs line) f = absurd f

-- the lines of its span
pub shown_whole : (bytes text : List ℕ) (o o' : Option (List ℕ)) (status : Status) → HasSpan bytes text → Shows status text o o'
    → AnswersSpan status bytes (Some []) o o'
shown_whole bytes text o o' Done f w = record { text = text; has_span = f; none_left = refl; shown = w }
shown_whole bytes text o o' WriteFault f w = record { text = text; has_span = f; none_left = refl; shown = w }
shown_whole bytes text o o' (Refused kind at) f w = absurd w
shown_whole bytes text o o' NoMemory f w = absurd w
shown_whole bytes text o o' ReadFault f w = absurd w
shown_whole bytes text o o' Words f w = absurd w
shown_whole bytes text o o' (Fault kind p at) f w = absurd w
shown_whole bytes text o o' Budget f w = absurd w
shown_whole bytes text o o' Deadlock f w = absurd w
shown_whole bytes text o o' (Limit kind) f w = absurd w
shown_whole bytes text o o' (Differs line) f w = absurd w

-- the journal that a book spells, or what is wrong with it
module _ (one_verdict : (text : List ℕ) (v w : Verdict) → Judges text v → Judges text w → v ≡ w) (book : List ℕ) (few : length book ≤ most) where
  pub none_bad : (j : Journal) → Judges book (spells j) → (k n : ℕ) → BadBook book k n → Prim.⊥
  none_bad j is k n (big_book many) = omega (arith, many, few)
  none_bad j is k n (by_line short bad) = let no = one_verdict book (spells j) (bad_line n) is bad in absurd cc
  none_bad j is k n (by_end short bad) = let no = one_verdict book (spells j) no_stop is bad in absurd cc

  pub one_line : (line : ℕ) → Judges book (bad_line line) → (k n : ℕ) → BadBook book k n → (k ≡ 20) × (n ≡ line)
  one_line line is k n (big_book many) = absurd (omega (arith, many, few))
  one_line line is k n (by_line short bad) = let same = one_verdict book (bad_line n) (bad_line line) bad is in (refl, cc)
  one_line line is k n (by_end short bad) = let no = one_verdict book (bad_line line) no_stop is bad in absurd cc

  pub one_end : Judges book no_stop → (k n : ℕ) → BadBook book k n → (k ≡ 21) × (n ≡ feeds book)
  one_end is k n (big_book many) = absurd (omega (arith, many, few))
  one_end is k n (by_line short bad) = let no = one_verdict book no_stop (bad_line n) is bad in absurd cc
  one_end is k n (by_end short bad) = (refl, refl)
