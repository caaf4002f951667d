-- Texts that are written one after another.
use Rattle.std.proofs.Common.{◌≡◌, ℕ, ◌+◌, ◌<◌, ◌++◌, List, length, get_or, drop, add-one, drop-cons, Option, sym, ap, ◌∙◌, subst, append_assoc}
use Rattle.std.specs.Borrow.{Bor}
use Rattle.ql_base.specs.Outside.{Appends, AppendsFront}
use Rattle.ql_top.specs.ErrorLine.{joined}
use Rattle.ql_top.proofs.Pieces.{appends_both}

-- a front of the second text, after the whole first one
pub front_after : (a b : List ℕ) (x y z : Option (List ℕ)) → Appends a x y → AppendsFront b y z → AppendsFront (a ++ b) x z
front_after a b x y z p q = record {
  front = a ++ q.front;
  rest = q.rest;
  parts = ap (λ k. a ++ k) q.parts ∙ sym (append_assoc a q.front q.rest);
  appended = appends_both a q.front x y z p q.appended;
}

-- a front of the first text is one of both
pub front_of_first : (a b : List ℕ) (x z : Option (List ℕ)) → AppendsFront a x z → AppendsFront (a ++ b) x z
front_of_first a b x z q = record {
  front = q.front;
  rest = q.rest ++ b;
  parts = ap (λ k. k ++ b) q.parts ∙ append_assoc q.front q.rest b;
  appended = q.appended;
}

-- the next part, and those after it
pub next_part : (parts : List (Bor (List ℕ))) (i : ℕ) (d : Bor (List ℕ)) → i < length parts → (get_or parts i d).now ++ joined (drop (i + 1) parts) ≡ joined (drop i parts)
next_part parts i d h = rw (add-one) (sym (ap joined (drop-cons parts i d h)))

pub part_then_others : (parts : List (Bor (List ℕ))) (i : ℕ) (d : Bor (List ℕ)) (x y z : Option (List ℕ)) → i < length parts → Appends (get_or parts i d).now x y
    → Appends (joined (drop (i + 1) parts)) y z → Appends (joined (drop i parts)) x z
part_then_others parts i d x y z h p q = subst (λ t. Appends t x z) (next_part parts i d h) (appends_both (get_or parts i d).now (joined (drop (i + 1) parts)) x y z p q)

pub part_then_front : (parts : List (Bor (List ℕ))) (i : ℕ) (d : Bor (List ℕ)) (x y z : Option (List ℕ)) → i < length parts → Appends (get_or parts i d).now x y
    → AppendsFront (joined (drop (i + 1) parts)) y z → AppendsFront (joined (drop i parts)) x z
part_then_front parts i d x y z h p q = subst (λ t. AppendsFront t x z) (next_part parts i d h) (front_after (get_or parts i d).now (joined (drop (i + 1) parts)) x y z p q)

pub front_of_part : (parts : List (Bor (List ℕ))) (i : ℕ) (d : Bor (List ℕ)) (x z : Option (List ℕ)) → i < length parts → AppendsFront (get_or parts i d).now x z → AppendsFront (joined (drop i parts)) x z
front_of_part parts i d x z h p = subst (λ t. AppendsFront t x z) (next_part parts i d h) (front_of_first (get_or parts i d).now (joined (drop (i + 1) parts)) x z p)

-- five texts, from the left and from the right
pub from_the_right : (a b c d e : List ℕ) → a ++ (b ++ (c ++ (d ++ e))) ≡ a ++ b ++ c ++ d ++ e
from_the_right a b c d e = sym (append_assoc (a ++ b ++ c) d e ∙ append_assoc (a ++ b) c (d ++ e) ∙ append_assoc a b (c ++ (d ++ e)))
