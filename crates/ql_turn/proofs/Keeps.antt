-- Each step keeps the rule.
use Rattle.std.proofs.Common.{◌≡◌, ◌≢◌, ℕ, zero, suc, ◌+◌, ◌-◌, ◌<◌, ◌==◌, true, false, List, [], ◌∷◌, ◌++◌, length, set, Option, Some, None, IsFalse, refl, sym, ap, ap₂, ◌∙◌, subst, arith, get_or-set_same, eq-eqb, ne_eqb, length-set, sum_by, ⊎_elim}
use Rattle.std.specs.Prelude.{slice_index}
use Rattle.std.proofs.lemmas.List.Sums.{sum_by-cons, sum_by_push}
use mathlib.Core.List.{IsPrefix}
use mathlib.Core.Option.{some, none, some-injective, some-ne-none}
use lib.ListN.{get_elem?}
use lib.Seq.{set-get_or}
use prog.Atomic.{either}
use Rattle.atomic_table.specs.Table.{State, Me, step, Act, keeps, takes, gives, stepped, Valid, Allows, Splits, Joins, Final, Seen, opening, carried_after}
use Rattle.atomic_table.proofs.Lists.{at_set, set_here, set_else, at_longer, at_snoc}
use Rattle.ql_turn.specs.declared.view.View.{View}
use Rattle.ql_turn.specs.declared.view.View.TheVariants.{Spent, Idle, Joined, Holding}
use Rattle.ql_turn.specs.Views.{parts_of, is_holding}
use Rattle.ql_turn.specs.Rule.{Fits, AllFit, Stands, IsRuled}
use Rattle.ql_turn.specs.Told.{one_less, one_part, joined, took, gave, looked}
use Rattle.ql_turn.proofs.Prefixes.{prefix_self, prefix_trans}

within : {A : Type 0} → (l : List A) (i : ℕ) (a : A) → get_elem? l i ≡ some a → i < length l
within [] i a e = absurd (some-ne-none a (sym e))
within (x ∷ xs) zero a e = omega arith
within (x ∷ xs) (suc i) a e = let k = within xs i a e in omega (arith, k)

-- a sum after one element was changed
sum_set : {A : Type 0} (f : A → ℕ) (l : List A) (i : ℕ) (a b : A) → get_elem? l i ≡ some a → sum_by f (set l i b) + f a ≡ sum_by f l + f b
sum_set f [] i a b e = absurd (some-ne-none a (sym e))
sum_set f (x ∷ xs) zero a b e = let same : f x ≡ f a = ap f (some-injective x a e) in omega (arith, sum_by-cons f b xs, sum_by-cons f x xs, same)
sum_set f (x ∷ xs) (suc i) a b e = let more = sum_set f xs i a b e in omega (arith, sum_by-cons f x (set xs i b), sum_by-cons f x xs, more)

-- the value in the slot that was taken last
abbrev pub slot_value : {S : Type 0} → S → List (ℕ × S) → S
slot_value d [] = d
slot_value d (x ∷ xs) = x.1

module _ {P E : Type 0} where
  -- what a seat without the turn knows stays so where the journal goes on
  still_fits : (p : P) (j k : List E) (holder after : Option ℕ) (i : ℕ) (v : View P E) → IsPrefix j k → (holder ≢ Some i) → Fits p j holder i v → Fits p k after i v
  still_fits p j k holder after i Spent b ne f = tt
  still_fits p j k holder after i (Idle q seen n) b ne f = (f.0, prefix_trans seen j k f.1 b, f.2)
  still_fits p j k holder after i (Joined q x y n) b ne f = (f.0, prefix_trans x j k f.1 b, prefix_trans y j k f.2 b, f.3)
  still_fits p j k holder after i (Holding q taken n) b ne f = absurd (ne f.3)

  -- a view was set, and fits; the others do as before
  all_fit : (p : P) (j : List E) (holder : Option ℕ) (views : List (View P E)) (i : ℕ) (w : View P E) → Fits p j holder i w
      → ((k : ℕ) (v : View P E) → k ≢ i → get_elem? views k ≡ some v → Fits p j holder k v) → AllFit p j holder (set views i w)
  all_fit p j holder views i w mine others k v e =
      ⊎_elim (λ (t : (k ≡ i) × (w ≡ v)). subst (λ (x : ℕ × View P E). Fits p j holder x.0 x.1) (λ h. (sym t.0 h, t.1 h)) mine)
      (λ (t : (k ≢ i) × (get_elem? views k ≡ some v)). others k v t.0 t.1) (at_set views i k w v e)

  not_holding : (v : View P E) (q : P) (k : List E) (m : ℕ) → IsFalse (is_holding v) → some v ≡ some (Holding q k m) → ⊥
  not_holding v q k m idle e = let holds : is_holding v ≡ true = ap is_holding (some-injective _ _ e) in absurd cc

module _ {P E H : Type 0} (program : H → P) (journal : H → List E) where
  abbrev V : Type 0
  V = View P E

  abbrev St : Type 0
  St = State (Option H) V

  abbrev Rule : St → Type 0
  Rule = IsRuled program journal

  abbrev with_views : St → List V → St
  with_views s views = record { words = s.words; homes = s.homes; views = views }

  -- the rule holds at the start
  pub opens : (h : H) → Rule (opening (0 ∷ []) (Some h ∷ []) (Idle (program h) (journal h) 65536))
  opens h = record {
    named = program h;
    given = journal h;
    holder = None;
    wide = refl;
    counted = refl;
    fit = only;
    stands = (refl, h, refl, refl, refl);
  }
    where
      only : AllFit (program h) (journal h) None (Idle (program h) (journal h) 65536 ∷ [])
      only zero v e = subst (Fits (program h) (journal h) None 0) (some-injective _ _ e) (refl, prefix_self (journal h), omega arith)
      only (suc k) v e = absurd (some-ne-none v (sym e))

  -- a step that changes no word and moves no slot, while the holder's view stays
  stands_still : (p : P) (j : List E) (holder : Option ℕ) (s : St) (views : List V)
      → ((who n : ℕ) → holder ≡ Some who → get_elem? s.views who ≡ some (Holding p j n) → get_elem? views who ≡ some (Holding p j n))
      → Stands program journal p j holder s → Stands program journal p j holder (with_views s views)
  stands_still p j None s views kept t = t
  stands_still p j (Some who) s views kept t = (t.0, t.1, t.2, kept who t.2 refl t.3)

  -- a step that leaves the word as it was
  rewritten : (s : St) (id : ℕ) (w : V) (c : List (ℕ × Option H)) (n : ℕ) → n ≡ slice_index s.words 0 → Rule (with_views s (set s.views id w)) → Rule (stepped s 0 n id c w keeps)
  rewritten s id w c n e r = subst (λ (ws : List ℕ). Rule record { words = ws; homes = s.homes; views = set s.views id w }) (sym (ap (set s.words 0) e ∙ set-get_or s.words 0 0)) r

  -- a seat whose view doesn't hold the turn isn't the one that holds it
  not_holder : (s : St) (r : Rule s) (id : ℕ) (v : V) → get_elem? s.views id ≡ some v → IsFalse (is_holding v) → (k : ℕ) → k ≡ id → r.holder ≢ Some k
  not_holder s r id v at idle k is = no_holder r.holder r.stands
    where
      no_holder : (holder : Option ℕ) → Stands program journal r.named r.given holder s → holder ≢ Some k
      no_holder None t h = absurd cc
      no_holder (Some who) t h = let same : who ≡ k = cc in not_holding v r.named r.given t.2 idle (sym at ∙ (ap (get_elem? s.views) (sym (same ∙ is)) ∙ t.3))

  -- the view of a seat that doesn't hold the turn becomes another such view with as many parts
  revised : (s : St) (r : Rule s) (id : ℕ) (v w : V) → get_elem? s.views id ≡ some v → IsFalse (is_holding v) → parts_of v ≡ parts_of w → Fits r.named r.given r.holder id w
      → Rule (with_views s (set s.views id w))
  revised s r id v w at idle same mine = record {
    named = r.named;
    given = r.given;
    holder = r.holder;
    wide = r.wide;
    counted = let sums = sum_set parts_of s.views id v w at in let before = r.counted in omega arith;
    fit = all_fit r.named r.given r.holder s.views id w mine (λ k u _. r.fit k u);
    stands = stands_still r.named r.given r.holder s (set s.views id w) (λ who n is here. set_else s.views id who w (λ e. not_holder s r id v at idle who e is) ∙ here) r.stands;
  }

  module _ (slots id : ℕ) (p : P) (j : List E) (n : ℕ) where
    module _ (s : St) (r : Rule s) (at : get_elem? s.views id ≡ some (Idle p j n)) where
      abbrev word : ℕ
      word = slice_index s.words 0

      abbrev TakeOut : Type 0
      TakeOut = (w : V) × (a : Act (Option H)) × Valid s.homes [] a × Rule (stepped s 0 (either (word == 0) 1 word) id [] w a)
          × took program journal (step slots 0 0 1 none) (Idle p j n, []) word (w, carried_after [] a)

      take_free : (word ≡ 0) → (h : H) → s.homes ≡ some (Some h) ∷ [] → program h ≡ r.named → journal h ≡ r.given → TakeOut
      take_free free h home of given =
          let knows = r.fit id (Idle p j n) at in
          let wide = r.wide in
          let one : either (word == 0) 1 word ≡ 1 = let e : (word == 0) ≡ true = eq-eqb _ _ free in rw e refl in
          let w : V = Holding (program h) (journal h) n in (
            w,
            takes 0 (Some h),
            ap (λ (l : List _). get_elem? l 0) home,
            record {
              named = r.named;
              given = r.given;
              holder = Some id;
              wide = length-set s.words 0 (either (word == 0) 1 word) ∙ wide;
              counted = let sums = sum_set parts_of s.views id (Idle p j n) w at in let before = r.counted in omega arith;
              fit = all_fit r.named r.given (Some id) s.views id w (of, given, knows.2, refl)
                  (λ k v ne e. still_fits r.named r.given r.given r.holder (Some id) k v (prefix_self r.given) (free_of r.holder k r.stands) (r.fit k v e));
              stands = (
                get_or-set_same s.words 0 (either (word == 0) 1 word) 0 (omega arith) ∙ one,
                ap (λ (l : List _). set l 0 none) home,
                n,
                set_here s.views id w (within s.views id _ at) ∙ ap₂ (λ (a : P) (b : List E). some (Holding a b n)) of given,
              );
            },
            ((λ _. (h, (ap Some (knows.0 ∙ sym of), subst (IsPrefix j) (sym given) knows.1), refl)), λ ne. absurd (ne free)),
          )
        where
          free_of : (holder : Option ℕ) (k : ℕ) → Stands program journal r.named r.given holder s → holder ≢ Some k
          free_of None k t h = absurd cc
          free_of (Some who) k t h = let held = t.0 in absurd (omega arith)

      take_held : (word ≡ 1) → TakeOut
      take_held held =
          let e : (word == 0) ≡ false = ne_eqb _ _ (λ z. omega arith) in
          let same : either (word == 0) 1 word ≡ word = rw e refl in (
            Idle p j n,
            keeps,
            tt,
            rewritten s id (Idle p j n) [] (either (word == 0) 1 word) same (revised s r id (Idle p j n) (Idle p j n) at refl refl (r.fit id _ at)),
            ((λ z. absurd (omega arith)), λ _. refl),
          )

      take_any : (holder : Option ℕ) → Stands program journal r.named r.given holder s → TakeOut
      take_any None t = take_free t.0 t.1 t.2 t.3 t.4
      take_any (Some who) t = take_held t.0

    pub take_keeps : Allows Rule slots id (Idle p j n, []) 0 (λ found. either (found == 0) 1 found) (took program journal (step slots 0 0 1 none) (Idle p j n, []))
    take_keeps s r count at small = take_any s r at r.holder r.stands

    pub split_keeps : 1 < n → Splits Rule id (Idle p j n) (one_less (Idle p j n)) (one_part (Idle p j n))
    split_keeps more s r at =
        let knows = r.fit id (Idle p j n) at in
        let w : V = Idle p j (n - 1) in
        let new : V = Idle p j 1 in
        let other = not_holder s r id (Idle p j n) at refl in
        record {
          named = r.named;
          given = r.given;
          holder = r.holder;
          wide = r.wide;
          counted = let sums = sum_set parts_of s.views id (Idle p j n) w at in let before = r.counted in omega (arith, sum_by_push parts_of (set s.views id w) new);
          fit = λ k v e. ⊎_elim (λ (old : get_elem? (set s.views id w) k ≡ some v). all_fit r.named r.given r.holder s.views id w (knows.0, knows.1, omega arith) (λ i u _. r.fit i u) k v old)
              (λ (is : new ≡ v). subst (Fits r.named r.given r.holder k) is (knows.0, knows.1, omega arith)) (at_snoc (set s.views id w) new v k e);
          stands = stands_still r.named r.given r.holder s (set s.views id w ++ new ∷ [])
              (λ who m is here. at_longer (set s.views id w) (new ∷ []) who _ (set_else s.views id who w (λ e. other who e is) ∙ here)) r.stands;
        }

    pub join_keeps : (with q : ℕ) (o : P) (k : List E) → Joins Rule id (Idle p j n) with (Idle o k q) (joined (Idle p j n) (Idle o k q)) Spent
    join_keeps with q o k s r at apart there =
        let knows = r.fit id (Idle p j n) at in
        let w : V = Joined p j k (n + q) in
        let before_there : get_elem? s.views with ≡ some (Idle o k q) = sym (set_else s.views id with w apart) ∙ there in
        let also = r.fit with (Idle o k q) before_there in
        let other = not_holder s r id (Idle p j n) at refl in
        let another = not_holder s r with (Idle o k q) before_there refl in
        record {
          named = r.named;
          given = r.given;
          holder = r.holder;
          wide = r.wide;
          counted = let sums = sum_set parts_of s.views id (Idle p j n) w at in let again = sum_set parts_of (set s.views id w) with (Idle o k q) Spent there in let before = r.counted in omega arith;
          fit = all_fit r.named r.given r.holder (set s.views id w) with Spent tt
              (λ i v _. all_fit r.named r.given r.holder s.views id w (knows.0, knows.1, also.1, omega arith) (λ i u _. r.fit i u) i v);
          stands = stands_still r.named r.given r.holder s (set (set s.views id w) with Spent)
              (λ who m is here. set_else (set s.views id w) with who Spent (λ e. another who e is) ∙ (set_else s.views id who w (λ e. other who e is) ∙ here)) r.stands;
        }

    -- a seat that was just joined sees the journal that was given last, which begins with each of the two
    pub look_keeps : (k : List E) → Allows Rule slots id (Joined p j k n, []) 0 (λ found. found) (looked (step slots 0 0 0 none) (Joined p j k n, []))
    look_keeps k s r count at small =
        let knows = r.fit id (Joined p j k n) at in
        let w : V = Idle p r.given n in (
          w,
          keeps,
          tt,
          rewritten s id w [] (slice_index s.words 0) refl (revised s r id (Joined p j k n) w at refl refl (knows.0, prefix_self r.given, knows.3)),
          (p, r.given, refl, (knows.1, knows.2), refl),
        )

  pub give_keeps : (slots id : ℕ) (h : H) (j : List E) (n : ℕ) → IsPrefix j (journal h)
      → Allows Rule slots id (Holding (program h) j n, (0, Some h) ∷ []) 0 (λ _. 0) (gave program journal (step slots 0 0 0 none) (Holding (program h) j n, (0, Some h) ∷ []))
  give_keeps slots id h j n goes_on s r count at small = give_any r.holder refl r.stands
    where
      knows : Fits r.named r.given r.holder id (Holding (program h) j n)
      knows = r.fit id (Holding (program h) j n) at

      w : V
      w = Idle (program h) (journal h) n

      GiveOut : Type 0
      GiveOut = (w : V) × (a : Act (Option H)) × Valid s.homes ((0, Some h) ∷ []) a × Rule (stepped s 0 0 id ((0, Some h) ∷ []) w a)
          × gave program journal (step slots 0 0 0 none) (Holding (program h) j n, (0, Some h) ∷ []) (slice_index s.words 0) (w, carried_after ((0, Some h) ∷ []) a)

      give_any : (holder : Option ℕ) → r.holder ≡ holder → Stands program journal r.named r.given holder s → GiveOut
      give_any None is t = let no : r.holder ≡ Some id = knows.3 in absurd cc
      give_any (Some who) is t =
          let wide = r.wide in
          let me : r.holder ≡ Some id = knows.3 in (
            w,
            gives,
            tt,
            record {
              named = r.named;
              given = journal h;
              holder = None;
              wide = length-set s.words 0 0 ∙ wide;
              counted = let sums = sum_set parts_of s.views id (Holding (program h) j n) w at in let before = r.counted in omega arith;
              fit = all_fit r.named (journal h) None s.views id w (knows.0, prefix_self (journal h), knows.2)
                  (λ k v ne e. still_fits r.named r.given (journal h) r.holder None k v (subst (λ l. IsPrefix l (journal h)) knows.1 goes_on) (λ z. let both : Some id ≡ Some k = sym me ∙ z in let kk : id ≡ k = cc in ne (sym kk)) (r.fit k v e));
              stands = (get_or-set_same s.words 0 0 0 (omega arith), h, ap (λ (l : List _). set l 0 (some (Some h))) t.1, knows.0, refl);
            },
            (λ g e. let both : Some h ≡ Some g = ap (slot_value None) e in let same : h ≡ g = cc in ap (λ (u : H). let m : Me (Option H) V = (Idle (program u) (journal u) n, []) in m) same),
          )

  -- where one seat has all the parts and hasn't the turn, the value lies in the turn
  pub all_back : (ws : List ℕ) (xs : List (Option H)) (id : ℕ) (p : P) (j : List E) → Final (Seen Rule id (Idle p j 65536)) ws xs
      → (h : H) × (get_elem? xs 0 ≡ some (Some h)) × (program h ≡ p) × IsPrefix j (journal h)
  all_back ws xs id p j final = at_holder r.holder r.stands
    where
      s : St
      s = final.0

      r : Rule s
      r = final.1.0

      at : get_elem? s.views id ≡ some (Idle p j 65536)
      at = final.1.1

      knows : Fits r.named r.given r.holder id (Idle p j 65536)
      knows = r.fit id (Idle p j 65536) at

      at_holder : (holder : Option ℕ) → Stands program journal r.named r.given holder s → (h : H) × (get_elem? xs 0 ≡ some (Some h)) × (program h ≡ p) × IsPrefix j (journal h)
      at_holder None t = (t.1, final.4 0 (Some t.1) (ap (λ (l : List _). get_elem? l 0) t.2), t.3 ∙ sym knows.0, subst (IsPrefix j) (sym t.4) knows.1)
      at_holder (Some who) t =
          let n : ℕ = t.2 in
          let v : V = Holding r.named r.given n in
          let some_part = (r.fit who v t.3).2 in
          let apart : who ≢ id = λ e. not_holding (Idle p j 65536) r.named r.given n refl (sym at ∙ (ap (get_elem? s.views) (sym e) ∙ t.3)) in
          let sums = sum_set parts_of s.views id (Idle p j 65536) Spent at in
          let there : get_elem? (set s.views id Spent) who ≡ some v = set_else s.views id who Spent apart ∙ t.3 in
          let again = sum_set parts_of (set s.views id Spent) who v Spent there in
          let before = r.counted in
          absurd (omega arith)
