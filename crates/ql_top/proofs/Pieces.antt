-- What one more piece does to the bytes that were read, or written.
use Rattle.std.proofs.Common.{◌≡◌, ℕ, ◌+◌, ◌<◌, ◌≤◌, ◌++◌, List, [], length, Option, Some, None, refl, sym, ap, ◌∙◌, subst, arith, append_assoc, append-nil, length-append}
use Rattle.ql_base.specs.Outside.{Reads, Appends, AppendsFront}
use Rattle.ql_read.specs.TextFault.{IsRefused, unfinished}
use Rattle.ql_read.specs.Told.{HasTaken}
use Rattle.ql_read.specs.declared.reader.Reader.{Reader}
use Rattle.ql_top.specs.Reading.{Takes, IsAtEnd, HasRead, IsFaulty}
use Rattle.std.specs.Prelude.{take, drop}
use Rattle.std.proofs.Math.Seq.{take-add}
use Rattle.std.proofs.lemmas.List.{take-append-drop}

pub takes_nothing : (left : Option (List ℕ)) → Takes [] left left
takes_nothing None = tt
takes_nothing (Some x) = refl

-- one more piece is taken
pub takes_more : (room : ℕ) (taken piece : List ℕ) (start left next : Option (List ℕ)) → Takes taken start left → Reads room piece left next
    → Takes (taken ++ piece) start next
takes_more room taken piece None None None t r = tt
takes_more room taken piece None None (Some z) t r = absurd r
takes_more room taken piece None (Some y) next t r = absurd t
takes_more room taken piece (Some x) None next t r = absurd t
takes_more room taken piece (Some x) (Some y) None t r = absurd r
takes_more room taken piece (Some x) (Some y) (Some z) t r = t ∙ ap (λ k. taken ++ k) r.0 ∙ sym (append_assoc taken piece z)

-- no piece comes only at the end
pub takes_last : (room : ℕ) (taken : List ℕ) (start left next : Option (List ℕ)) → 0 < room → Takes taken start left → Reads room [] left next
    → Takes taken start next × IsAtEnd next
takes_last room taken start left next some t r =
    (subst (λ k. Takes k start next) (append-nil taken) (takes_more room taken [] start left next t r), ended left next r)
  where
    ended : (left next : Option (List ℕ)) → Reads room [] left next → IsAtEnd next
    ended None None r = tt
    ended None (Some z) r = absurd r
    ended (Some y) None r = absurd r
    ended (Some y) (Some z) r = r.1 refl some

-- a piece has a fault
pub refused_piece : (reader : Reader) (piece : List ℕ) (start left next : Option (List ℕ)) (room kind at : ℕ) → HasRead reader start left → Reads room piece left next
    → ((t : List ℕ) → HasTaken reader t → IsRefused (t ++ piece) kind at) → ((t : List ℕ) → HasTaken reader t → (length t ≤ at) × (kind < unfinished)) → length piece ≤ 4096
    → IsFaulty kind at start next
refused_piece reader piece start left next room kind at h r bad near few =
    let len : length (h.taken ++ piece) ≡ length h.taken + length piece = length-append h.taken piece in
    let before : length h.taken ≤ at = (near h.taken h.has_taken).0 in
    let low : kind < 8 = (near h.taken h.has_taken).1 in
    record {
      taken = h.taken ++ piece;
      takes = takes_more room h.taken piece start left next h.takes r;
      refused = bad h.taken h.has_taken;
      near = omega (arith, len, before, few);
      at_end = λ e. absurd (omega (arith, low, e));
    }

pub unfinished_text : (reader : Reader) (start next : Option (List ℕ)) (kind at : ℕ) (h : HasRead reader start next) → IsAtEnd next
    → (kind ≡ 8) × IsRefused h.taken kind at → IsFaulty kind at start next
unfinished_text reader start next kind at h end (last, said) =
    record {
      taken = h.taken;
      takes = h.takes;
      refused = said;
      near = let p : at ≡ length h.taken = said.late (omega (arith, last)) in omega (arith, p);
      at_end = λ e. end;
    }

-- nothing was written yet
pub appends_nothing : (held : Option (List ℕ)) → Appends [] held held
appends_nothing None = tt
appends_nothing (Some x) = sym (append-nil x)

-- a text and then another
pub appends_both : (a b : List ℕ) (x y z : Option (List ℕ)) → Appends a x y → Appends b y z → Appends (a ++ b) x z
appends_both a b None None None p q = tt
appends_both a b None None (Some z) p q = absurd q
appends_both a b None (Some y) z p q = absurd p
appends_both a b (Some x) None z p q = absurd p
appends_both a b (Some x) (Some y) None p q = absurd q
appends_both a b (Some x) (Some y) (Some z) p q = q ∙ ap (λ k. k ++ b) p ∙ append_assoc x a b

pub appends_more : (text : List ℕ) (at n : ℕ) (x y z : Option (List ℕ)) → Appends (take at text) x y → Appends (take n (drop at text)) y z → Appends (take (at + n) text) x z
appends_more text at n x y z p q =
    subst (λ t. Appends t x z) (sym (take-add at n text)) (appends_both (take at text) (take n (drop at text)) x y z p q)

-- what was written when a call failed is a front of the text
pub front_written : (text : List ℕ) (at : ℕ) (x y z : Option (List ℕ)) → Appends (take at text) x y → z ≡ y → AppendsFront text x z
front_written text at x y z p e =
    record { front = take at text; rest = drop at text; parts = sym (take-append-drop at text); appended = subst (Appends (take at text) x) (sym e) p }
