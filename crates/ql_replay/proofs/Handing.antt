-- What was read of a book, and what of that was handed on.
use Rattle.std.proofs.Common.{◌≡◌, ℕ, List, [], ◌∷◌, ◌++◌, drop, Option, Some, None, refl, sym, ap, ◌∙◌, subst, ⊎_elim, append_assoc, append-nil}
use Rattle.ql_replay.specs.Page.{first_of, Takes, TakesSome, IsAtEnd, MayCome, Hands}
use Rattle.ql_replay.proofs.Pages.{some_first}

pub takes_nothing : (left : Option (List ℕ)) → Takes [] left left
takes_nothing None = tt
takes_nothing (Some x) = refl

pub takes_both : (a b : List ℕ) (x y z : Option (List ℕ)) → Takes a x y → Takes b y z → Takes (a ++ b) x z
takes_both a b None None None p q = tt
takes_both a b None None (Some z) p q = absurd q
takes_both a b None (Some y) z p q = absurd p
takes_both a b (Some x) None z p q = absurd p
takes_both a b (Some x) (Some y) None p q = absurd q
takes_both a b (Some x) (Some y) (Some z) p q = p ∙ (ap (λ (k : List ℕ). a ++ k) q ∙ sym (append_assoc a b z))

-- what a book that tells its bytes has left
pub told_rest : (read bytes : List ℕ) (left left' : Option (List ℕ)) → Takes read left left' → left ≡ Some bytes → (rest : List ℕ) × ((left' ≡ Some rest) × (bytes ≡ read ++ rest))
told_rest read bytes None left' t e = absurd cc
told_rest read bytes (Some x) None t e = absurd t
told_rest read bytes (Some x) (Some rest) t e = let s : bytes ≡ x = cc in (rest, (refl, s ∙ t))

pub nothing_comes : (left : Option (List ℕ)) (more : List ℕ) → IsAtEnd left → MayCome more left → more ≡ []
nothing_comes left more end c = ⊎_elim (λ (n : more ≡ []). n) (λ (s : left ≡ Some more). all_told left s end) c
  where
    all_told : (left : Option (List ℕ)) → left ≡ Some more → IsAtEnd left → more ≡ []
    all_told None s end = absurd cc
    all_told (Some rest) s end = let e : more ≡ rest = cc in e ∙ end

pub hands_nothing : (page : List ℕ) (left : Option (List ℕ)) → Hands [] page left page left
hands_nothing page left = record { read = []; takes = takes_nothing left; parts = append-nil page }

module _ (a page : List ℕ) (left : Option (List ℕ)) (page' : List ℕ) (left' : Option (List ℕ)) (h : Hands a page left page' left') where
  pub hands_some : TakesSome left left'
  hands_some = (h.read, h.takes)

  -- The first page and all that was read are what was handed on and all that came behind it.
  pub all_parts : (more : List ℕ) → page ++ (h.read ++ more) ≡ a ++ (page' ++ more)
  all_parts more = sym (append_assoc page h.read more) ∙ (ap (λ (z : List ℕ). z ++ more) h.parts ∙ append_assoc a page' more)

  pub hands_both : (b page'' : List ℕ) (left'' : Option (List ℕ)) → Hands b page' left' page'' left'' → Hands (a ++ b) page left page'' left''
  hands_both b page'' left'' k = record {
    read = h.read ++ k.read;
    takes = takes_both h.read k.read left left' left'' h.takes k.takes;
    parts = all_parts k.read ∙ (ap (λ (z : List ℕ). a ++ z) k.parts ∙ sym (append_assoc a b page''));
  }

  pub hands_still : (page'' : List ℕ) (left'' : Option (List ℕ)) → Hands [] page' left' page'' left'' → Hands a page left page'' left''
  hands_still page'' left'' k = subst (λ (z : List ℕ). Hands z page left page'' left'') (append-nil a) (hands_both [] page'' left'' k)

  -- one byte more, which was the first of the page
  pub hands_one : (b : ℕ) (page'' : List ℕ) → first_of page' ≡ Some b → page'' ≡ drop 1 page' → Hands (a ++ b ∷ []) page left page'' left'
  hands_one b page'' f d =
      let x = some_first page' b f in
      let e : page'' ≡ x.0 = d ∙ ap (drop 1) x.1 in
      hands_both (b ∷ []) page'' left' (record {
        read = [];
        takes = takes_nothing left';
        parts = append-nil page' ∙ (x.1 ∙ ap (λ (z : List ℕ). b ∷ z) (sym e));
      })

  pub hands_none_left : page' ≡ [] → Hands a page left [] left'
  hands_none_left e = subst (λ (z : List ℕ). Hands a page left z left') e h

-- one byte more, at which was looked
pub hands_byte : (held more : List ℕ) (b : ℕ) (page0 : List ℕ) (left0 : Option (List ℕ)) (page : List ℕ) (left : Option (List ℕ)) (page' : List ℕ)
    (left' : Option (List ℕ)) (page'' : List ℕ) → Hands held page0 left0 page left → Hands [] page left page' left' → first_of page' ≡ Some b
    → more ≡ held ++ b ∷ [] → page'' ≡ drop 1 page' → Hands more page0 left0 page'' left'
hands_byte held more b page0 left0 page left page' left' page'' h p f e d =
    subst (λ (z : List ℕ). Hands z page0 left0 page'' left') (sym e)
    (hands_one held page0 left0 page' left' (hands_still held page0 left0 page left h page' left' p) b page'' f d)
