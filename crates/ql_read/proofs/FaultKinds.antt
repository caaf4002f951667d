-- The kind of the first fault.
use Rattle.std.proofs.Common.{◌≡◌, ℕ, ◌+◌, ◌==◌, Bool, true, false, List, [], ◌∷◌, ◌++◌, length, Option, Some, None, refl, sym, ap, ◌∙◌, subst, arith, inl, inr}
use Rattle.std.specs.Prelude.{ltb, if◌then◌else◌}
use Rattle.ql_forms.specs.Bytes.{Class, blank, letter, digit, plus, minus, opening, closing, mark, semicolon, dot, other, class, is_atom}
use Rattle.ql_forms.specs.Spelled.{Form, symbol, integer, quote_form, none, more, Atom}
use Rattle.ql_forms.specs.Spells.{is_numeric, HasSign, no_sign, a_plus, a_minus, IsAtom, a_symbol, an_integer}
use Rattle.ql_base.specs.declared.refusal.FaultKind.{FaultKind}
use Rattle.ql_base.specs.declared.refusal.FaultKind.TheVariants.{StrayClose, BadDot, BadNumber, LongName, TooDeep}
use Rattle.ql_read.specs.TextFault.{FaultsAt}
use Rattle.ql_read.specs.Scan.{Token, of_symbol, of_sign, of_number, first, next, token_atom, token_form, token_kind, Stack, top, in_list, in_tail, past_tail, in_quote, depth, push, State, between, in_comment, in_atom, after_dot, bad, close, put_dot, form_in, step_between, atom_or_bad, step_atom, step_dot, step, scan, start}
use Rattle.std.specs.Prelude.{not}
use Rattle.std.proofs.lemmas.Bool.{eqb-true}
use Rattle.ql_read.specs.TextFault.{atom_at_end, is_gap, is_semicolon, is_dot, last_byte, atom_kind, OpeningKind, HasKind, ByteFault}
use Rattle.ql_read.proofs.Tokens.{Goes, goes_is}
use Rattle.ql_read.proofs.GoesOn.{scan_append, can_go_on, cannot}
use Rattle.ql_read.proofs.Faults.{IsGood, FirstBad, Reached, reaches, fault_is}

-- the token is that of these bytes
abbrev Whole : Token → List ℕ → Type 0
Whole v w = (b : ℕ) × (t : List ℕ) × (w ≡ b ∷ t) × Goes (first b (class b)) t v

abbrev Runs : State → List ℕ → Type 0
Runs (between o k) w = w ≡ []
Runs (in_comment o k) w = Prim.Unit {0}
Runs (in_atom o at v k) w = Whole v w
Runs (after_dot o k) w = w ≡ []
Runs (bad at kind) w = Prim.Unit {0}

goes_one : (t : List ℕ) (x v y : Token) (b : ℕ) → Goes x t v → next v b (class b) ≡ Some y → Goes x (t ++ b ∷ []) y
goes_one [] x v y b e n = (y, rw e n, refl)
goes_one (a ∷ t) x v y b (z, e, g) n = (z, e, goes_one t z v y b g n)

runs_form : (o : ℕ) (k : Stack) (s : State) (w : List ℕ) → Runs s w → Runs (form_in o k s) w
runs_form o (top gs) s w h = h
runs_form o (in_list at gs k) s w h = h
runs_form o (in_tail at gs k) s w h = h
runs_form o (past_tail at gs f k) s w h = tt
runs_form o (in_quote at k) s w h = h

runs_if : (c : Bool) (s t : State) (w : List ℕ) → Runs s w → Runs t w → Runs (if c then s else t) w
runs_if true s t w h i = h
runs_if false s t w h i = i

runs_close : (o : ℕ) (k : Stack) → Runs (close o k) []
runs_close o (top gs) = tt
runs_close o (in_list at gs k) = refl
runs_close o (in_tail at gs k) = tt
runs_close o (past_tail at gs f k) = refl
runs_close o (in_quote at k) = tt

runs_dot : (o : ℕ) (k : Stack) → Runs (put_dot o k) []
runs_dot o (top gs) = tt
runs_dot o (in_list at none k) = tt
runs_dot o (in_list at (more f gs) k) = refl
runs_dot o (in_tail at gs k) = tt
runs_dot o (past_tail at gs f k) = tt
runs_dot o (in_quote at k) = tt

runs_between : (o : ℕ) (k : Stack) (b : ℕ) (c : Class) → class b ≡ c → Runs (step_between o k b c) (if is_atom c then b ∷ [] else [])
runs_between o k b blank e = refl
runs_between o k b letter e = runs_form o k _ (b ∷ []) (b, [], refl, rw e refl)
runs_between o k b digit e = runs_form o k _ (b ∷ []) (b, [], refl, rw e refl)
runs_between o k b plus e = runs_form o k _ (b ∷ []) (b, [], refl, rw e refl)
runs_between o k b minus e = runs_form o k _ (b ∷ []) (b, [], refl, rw e refl)
runs_between o k b opening e = runs_form o k _ [] (runs_if (ltb (depth k) 200) _ _ [] refl tt)
runs_between o k b closing e = runs_close o k
runs_between o k b mark e = runs_form o k _ [] (runs_if (ltb (depth k) 200) _ _ [] refl tt)
runs_between o k b semicolon e = tt
runs_between o k b dot e = runs_dot o k
runs_between o k b other e = tt

runs_more : (o at : ℕ) (v : Token) (k : Stack) (b : ℕ) (w : List ℕ) (z : Option Token) → Whole v w → next v b (class b) ≡ z → Runs (atom_or_bad o at v k z) (w ++ b ∷ [])
runs_more o at v k b w (Some y) (a, t, e, g) n = (a, t ++ b ∷ [], ap (λ x. x ++ b ∷ []) e, goes_one t (first a (class a)) v y b g n)
runs_more o at v k b w None h n = tt

runs_atom : (o at : ℕ) (v : Token) (k : Stack) (b : ℕ) (w : List ℕ) (c : Class) → class b ≡ c → Whole v w → Runs (step_atom o at v k b c) (if is_atom c then w ++ b ∷ [] else [])
runs_atom o at v k b w letter e h = runs_more o at v k b w (next v b letter) h (rw e refl)
runs_atom o at v k b w digit e h = runs_more o at v k b w (next v b digit) h (rw e refl)
runs_atom o at v k b w plus e h = runs_more o at v k b w (next v b plus) h (rw e refl)
runs_atom o at v k b w minus e h = runs_more o at v k b w (next v b minus) h (rw e refl)
runs_atom o at v k b w dot e h = tt
runs_atom o at v k b w blank e h = refl
runs_atom o at v k b w opening e h = runs_between o (push (token_form at v) k) b opening e
runs_atom o at v k b w closing e h = runs_close o (push (token_form at v) k)
runs_atom o at v k b w mark e h = runs_between o (push (token_form at v) k) b mark e
runs_atom o at v k b w semicolon e h = tt
runs_atom o at v k b w other e h = tt

runs_after : (o : ℕ) (k : Stack) (b : ℕ) (c : Class) → class b ≡ c → Runs (step_dot o k b c) (if is_atom c then b ∷ [] else [])
runs_after o k b blank e = refl
runs_after o k b opening e = runs_between o k b opening e
runs_after o k b mark e = runs_between o k b mark e
runs_after o k b semicolon e = tt
runs_after o k b letter e = tt
runs_after o k b digit e = tt
runs_after o k b plus e = tt
runs_after o k b minus e = tt
runs_after o k b closing e = tt
runs_after o k b dot e = tt
runs_after o k b other e = tt

feed_class : (b : ℕ) → (b == 10) ≡ true → class b ≡ blank
feed_class b e = let h : b ≡ 10 = eqb-true b 10 e in ap class h

runs_comment : (o : ℕ) (k : Stack) (b : ℕ) (w : List ℕ) (c : Bool) → (b == 10) ≡ c → Runs (if c then between (o + 1) k else in_comment (o + 1) k) (if is_atom (class b) then w ++ b ∷ [] else [])
runs_comment o k b w true e = rw (feed_class b e) refl
runs_comment o k b w false e = tt

runs_step : (s : State) (b : ℕ) (w : List ℕ) → Runs s w → Runs (step s b) (if is_atom (class b) then w ++ b ∷ [] else [])
runs_step (between o k) b w h = subst (λ x. Runs (step (between o k) b) (if is_atom (class b) then x ++ b ∷ [] else [])) (sym h) (runs_between o k b (class b) refl)
runs_step (in_comment o k) b w h = runs_comment o k b w (b == 10) refl
runs_step (in_atom o at v k) b w h = runs_atom o at v k b w (class b) refl h
runs_step (after_dot o k) b w h = subst (λ x. Runs (step (after_dot o k) b) (if is_atom (class b) then x ++ b ∷ [] else [])) (sym h) (runs_after o k b (class b) refl)
runs_step (bad at kind) b w h = tt

runs : (t : List ℕ) (s : State) (w : List ℕ) → Runs s w → Runs (scan s t) (atom_at_end w t)
runs [] s w h = h
runs (b ∷ t) s w h = runs t (step s b) _ (runs_step s b w h)

-- the last byte is a dot exactly where a tail is awaited
abbrev is_tail : Stack → Bool
is_tail (in_tail at gs k) = true
is_tail _ = false

abbrev Lasts : State → Bool → ℕ → Type 0
Lasts (between o k) c l = (c ≡ false) × (is_tail k ≡ is_dot (class l))
Lasts (in_comment o k) c l = (c ≡ true) × (is_tail k ≡ is_dot (class l))
Lasts (in_atom o at v k) c l = (c ≡ false) × (is_dot (class l) ≡ false)
Lasts (after_dot o k) c l = (c ≡ false) × (is_dot (class l) ≡ true) × (is_tail k ≡ true)
Lasts (bad at kind) c l = Prim.Unit {0}

no_tail : (k : Stack) (f : Form) → is_tail (push f k) ≡ false
no_tail (top gs) f = refl
no_tail (in_list at gs k) f = refl
no_tail (in_tail at gs k) f = refl
no_tail (past_tail at gs g k) f = refl
no_tail (in_quote at k) f = no_tail k (quote_form at f)

lasts_form : (o : ℕ) (k : Stack) (s : State) (c : Bool) (l : ℕ) → Lasts s c l → Lasts (form_in o k s) c l
lasts_form o (top gs) s c l h = h
lasts_form o (in_list at gs k) s c l h = h
lasts_form o (in_tail at gs k) s c l h = h
lasts_form o (past_tail at gs f k) s c l h = tt
lasts_form o (in_quote at k) s c l h = h

lasts_if : (x : Bool) (s t : State) (c : Bool) (l : ℕ) → Lasts s c l → Lasts t c l → Lasts (if x then s else t) c l
lasts_if true s t c l h i = h
lasts_if false s t c l h i = i

lasts_close : (o : ℕ) (k : Stack) (b : ℕ) → class b ≡ closing → Lasts (close o k) false b
lasts_close o (top gs) b e = tt
lasts_close o (in_list at gs k) b e = (refl, no_tail k _ ∙ rw e refl)
lasts_close o (in_tail at gs k) b e = tt
lasts_close o (past_tail at gs f k) b e = (refl, no_tail k _ ∙ rw e refl)
lasts_close o (in_quote at k) b e = tt

lasts_dot : (o : ℕ) (k : Stack) (b : ℕ) → class b ≡ dot → Lasts (put_dot o k) false b
lasts_dot o (top gs) b e = tt
lasts_dot o (in_list at none k) b e = tt
lasts_dot o (in_list at (more f gs) k) b e = (refl, rw e refl, refl)
lasts_dot o (in_tail at gs k) b e = tt
lasts_dot o (past_tail at gs f k) b e = tt
lasts_dot o (in_quote at k) b e = tt

abbrev LastAt : State → Class → ℕ → ℕ → Type 0
LastAt s c l b = Lasts s (is_semicolon c) (if is_gap c then l else b)

lasts_between : (o : ℕ) (k : Stack) (l b : ℕ) (c : Class) → class b ≡ c → is_tail k ≡ is_dot (class l) → LastAt (step_between o k b c) c l b
lasts_between o k l b blank e h = (refl, h)
lasts_between o k l b letter e h = lasts_form o k _ false b (refl, rw e refl)
lasts_between o k l b digit e h = lasts_form o k _ false b (refl, rw e refl)
lasts_between o k l b plus e h = lasts_form o k _ false b (refl, rw e refl)
lasts_between o k l b minus e h = lasts_form o k _ false b (refl, rw e refl)
lasts_between o k l b opening e h = lasts_form o k _ false b (lasts_if (ltb (depth k) 200) _ _ false b (refl, rw e refl) tt)
lasts_between o k l b closing e h = lasts_close o k b e
lasts_between o k l b mark e h = lasts_form o k _ false b (lasts_if (ltb (depth k) 200) _ _ false b (refl, rw e refl) tt)
lasts_between o k l b semicolon e h = (refl, h)
lasts_between o k l b dot e h = lasts_dot o k b e
lasts_between o k l b other e h = tt

lasts_more : (o at : ℕ) (v : Token) (k : Stack) (l : ℕ) (z : Option Token) → is_dot (class l) ≡ false → Lasts (atom_or_bad o at v k z) false l
lasts_more o at v k l (Some y) h = (refl, h)
lasts_more o at v k l None h = tt

lasts_atom : (o at : ℕ) (v : Token) (k : Stack) (l b : ℕ) (c : Class) → class b ≡ c → is_dot (class l) ≡ false → LastAt (step_atom o at v k b c) c l b
lasts_atom o at v k l b letter e h = lasts_more o at v k b _ (rw e refl)
lasts_atom o at v k l b digit e h = lasts_more o at v k b _ (rw e refl)
lasts_atom o at v k l b plus e h = lasts_more o at v k b _ (rw e refl)
lasts_atom o at v k l b minus e h = lasts_more o at v k b _ (rw e refl)
lasts_atom o at v k l b dot e h = tt
lasts_atom o at v k l b blank e h = (refl, no_tail k _ ∙ sym h)
lasts_atom o at v k l b opening e h = lasts_between o (push (token_form at v) k) l b opening e (no_tail k _ ∙ sym h)
lasts_atom o at v k l b closing e h = lasts_close o (push (token_form at v) k) b e
lasts_atom o at v k l b mark e h = lasts_between o (push (token_form at v) k) l b mark e (no_tail k _ ∙ sym h)
lasts_atom o at v k l b semicolon e h = (refl, no_tail k _ ∙ sym h)
lasts_atom o at v k l b other e h = tt

lasts_after : (o : ℕ) (k : Stack) (l b : ℕ) (c : Class) → class b ≡ c → is_tail k ≡ is_dot (class l) → LastAt (step_dot o k b c) c l b
lasts_after o k l b blank e h = (refl, h)
lasts_after o k l b opening e h = lasts_between o k l b opening e h
lasts_after o k l b mark e h = lasts_between o k l b mark e h
lasts_after o k l b semicolon e h = (refl, h)
lasts_after o k l b letter e h = tt
lasts_after o k l b digit e h = tt
lasts_after o k l b plus e h = tt
lasts_after o k l b minus e h = tt
lasts_after o k l b closing e h = tt
lasts_after o k l b dot e h = tt
lasts_after o k l b other e h = tt

lasts_comment : (o : ℕ) (k : Stack) (l : ℕ) (c : Bool) → is_tail k ≡ is_dot (class l) → Lasts (if c then between (o + 1) k else in_comment (o + 1) k) (not c) l
lasts_comment o k l true h = (refl, h)
lasts_comment o k l false h = (refl, h)

lasts_bad : (at : ℕ) (kind : FaultKind) (t : List ℕ) (c : Bool) (l : ℕ) → Lasts (scan (bad at kind) t) c l
lasts_bad at kind [] c l = tt
lasts_bad at kind (b ∷ t) c l = lasts_bad at kind t c l

abbrev LastsTo : State → ℕ → Type 0
LastsTo s l = (c : Bool) × Lasts s c l

lasts : (t : List ℕ) (s : State) (c : Bool) (l : ℕ) → Lasts s c l → LastsTo (scan s t) (last_byte c l t)
lasts [] s c l h = (c, h)
lasts (b ∷ t) (between o k) c l (e, h) = rw e (lasts t _ _ _ (lasts_between o k l b (class b) refl h))
lasts (b ∷ t) (in_comment o k) c l (e, h) = rw e (lasts t _ _ _ (lasts_comment o k l (b == 10) h))
lasts (b ∷ t) (in_atom o at v k) c l (e, h) = rw e (lasts t _ _ _ (lasts_atom o at v k l b (class b) refl h))
lasts (b ∷ t) (after_dot o k) c l (e, h, i) = rw e (lasts t _ _ _ (lasts_after o k l b (class b) refl (i ∙ sym h)))
lasts (b ∷ t) (bad at kind) c l h = (false, lasts_bad at kind t false _)

is_integer : Atom → Bool
is_integer (integer z) = true
is_integer (symbol w) = false

sign_numeric : {w ds : List ℕ} {n : Bool} {b : ℕ} → HasSign w n (b ∷ ds) → class b ≡ digit → is_numeric w ≡ true
sign_numeric no_sign d = rw d refl
sign_numeric (a_plus e) d = rw (e, d) refl
sign_numeric (a_minus e) d = rw (e, d) refl

numeric_is : {w : List ℕ} {a : Atom} → IsAtom w a → is_numeric w ≡ is_integer a
unfolding is_integer
numeric_is (a_symbol nn len) = nn
numeric_is (an_integer s (d, ds) h) = sign_numeric s d

kind_is : (v : Token) → token_kind v ≡ (if is_integer (token_atom v) then BadNumber else LongName)
unfolding is_integer
kind_is (of_symbol w) = refl
kind_is (of_sign n b) = refl
kind_is (of_number n x) = refl

whole_kind : (v : Token) (w : List ℕ) → Whole v w → token_kind v ≡ atom_kind w
whole_kind v w (b, t, e, g) =
    let n : is_numeric (b ∷ t) ≡ is_integer (token_atom v) = numeric_is (goes_is b t v g) in
    let a : token_kind v ≡ atom_kind (b ∷ t) = kind_is v ∙ ap (λ x. if x then BadNumber else LongName) (sym n) in
    a ∙ ap atom_kind (sym e)

-- at the first fault, after the bytes p
module _ (p : List ℕ) (n : ℕ) (kind : FaultKind) where
  same_kind : {m : ℕ} {k : FaultKind} → bad m k ≡ bad n kind → kind ≡ k
  same_kind e = cc

  more_kind : (o at : ℕ) (v : Token) (k : Stack) (z : Option Token) → atom_or_bad o at v k z ≡ bad n kind → kind ≡ token_kind v
  more_kind o at v k (Some y) e = absurd (cc)
  more_kind o at v k None e = same_kind e

  form_kind : (o : ℕ) (k : Stack) (s : State) → (s ≡ bad n kind → Prim.⊥) → form_in o k s ≡ bad n kind → kind ≡ BadDot
  form_kind o (top gs) s h e = absurd (h e)
  form_kind o (in_list at gs k) s h e = absurd (h e)
  form_kind o (in_tail at gs k) s h e = absurd (h e)
  form_kind o (past_tail at gs f k) s h e = same_kind e
  form_kind o (in_quote at k) s h e = absurd (h e)

  close_kind : (o : ℕ) (k : Stack) → close o k ≡ bad n kind → kind ≡ (if is_tail k then BadDot else StrayClose)
  close_kind o (top gs) e = same_kind e
  close_kind o (in_list at gs k) e = absurd (cc)
  close_kind o (in_tail at gs k) e = same_kind e
  close_kind o (past_tail at gs f k) e = absurd (cc)
  close_kind o (in_quote at k) e = same_kind e

  dot_kind : (o : ℕ) (k : Stack) → put_dot o k ≡ bad n kind → kind ≡ BadDot
  dot_kind o (top gs) e = same_kind e
  dot_kind o (in_list at none k) e = same_kind e
  dot_kind o (in_list at (more f gs) k) e = absurd (cc)
  dot_kind o (in_tail at gs k) e = same_kind e
  dot_kind o (past_tail at gs f k) e = same_kind e
  dot_kind o (in_quote at k) e = same_kind e

  level_kind : (o : ℕ) (c : Bool) (s : State) → (s ≡ bad n kind → Prim.⊥) → (if c then s else bad o TooDeep) ≡ bad n kind → kind ≡ TooDeep
  level_kind o true s h e = absurd (h e)
  level_kind o false s h e = same_kind e

  -- after a blank
  Blank : ℕ → Stack → Type 0
  Blank o k = scan start (p ++ 32 ∷ 97 ∷ []) ≡ form_in o k (in_atom (o + 1) o (of_symbol (97 ∷ [])) k)

  opens_kind : (o q : ℕ) (k : Stack) (s : State) → Blank q k → (s ≡ bad n kind → kind ≡ TooDeep) → form_in o k s ≡ bad n kind → OpeningKind p kind
  unfolding Blank
  opens_kind o q (top gs) s b h e = inl (h e, can_go_on (p ++ 32 ∷ 97 ∷ []) (rw b refl))
  opens_kind o q (in_list at gs k) s b h e = inl (h e, can_go_on (p ++ 32 ∷ 97 ∷ []) (rw b refl))
  opens_kind o q (in_tail at gs k) s b h e = inl (h e, can_go_on (p ++ 32 ∷ 97 ∷ []) (rw b refl))
  opens_kind o q (past_tail at gs f k) s b h e = inr (same_kind e, cannot (p ++ 32 ∷ 97 ∷ []) q BadDot b)
  opens_kind o q (in_quote at k) s b h e = inl (h e, can_go_on (p ++ 32 ∷ 97 ∷ []) (rw b refl))

  between_kind : (o q : ℕ) (k : Stack) (b : ℕ) (c : Class) → class b ≡ c → Blank q k → (is_atom c ≡ true → atom_at_end [] p ≡ []) → is_tail k ≡ is_dot (class (last_byte false 0 p))
      → step_between o k b c ≡ bad n kind → HasKind p c kind
  between_kind o q k b blank i bl run last e = absurd (cc)
  between_kind o q k b letter i bl run last e = form_kind o k _ (λ h. absurd (cc)) e ∙ ap atom_kind (sym (run refl))
  between_kind o q k b digit i bl run last e = form_kind o k _ (λ h. absurd (cc)) e ∙ ap atom_kind (sym (run refl))
  between_kind o q k b plus i bl run last e = form_kind o k _ (λ h. absurd (cc)) e ∙ ap atom_kind (sym (run refl))
  between_kind o q k b minus i bl run last e = form_kind o k _ (λ h. absurd (cc)) e ∙ ap atom_kind (sym (run refl))
  between_kind o q k b opening i bl run last e = opens_kind o q k _ bl (level_kind o (ltb (depth k) 200) (between (o + 1) (in_list o none k)) (λ h. absurd (cc))) e
  between_kind o q k b closing i bl run last e = close_kind o k e ∙ ap (λ x. if x then BadDot else StrayClose) last
  between_kind o q k b mark i bl run last e = opens_kind o q k _ bl (level_kind o (ltb (depth k) 200) (between (o + 1) (in_quote o k)) (λ h. absurd (cc))) e
  between_kind o q k b semicolon i bl run last e = absurd (cc)
  between_kind o q k b dot i bl run last e = dot_kind o k e
  between_kind o q k b other i bl run last e = same_kind e

  atom_fault : (o at : ℕ) (v : Token) (k : Stack) (b : ℕ) (c : Class) → class b ≡ c → Blank (o + 1) (push (token_form at v) k) → Whole v (atom_at_end [] p)
      → is_dot (class (last_byte false 0 p)) ≡ false → step_atom o at v k b c ≡ bad n kind → HasKind p c kind
  atom_fault o at v k b letter i bl w last e = more_kind o at v k _ e ∙ whole_kind v _ w
  atom_fault o at v k b digit i bl w last e = more_kind o at v k _ e ∙ whole_kind v _ w
  atom_fault o at v k b plus i bl w last e = more_kind o at v k _ e ∙ whole_kind v _ w
  atom_fault o at v k b minus i bl w last e = more_kind o at v k _ e ∙ whole_kind v _ w
  atom_fault o at v k b dot i bl w last e = same_kind e
  atom_fault o at v k b blank i bl w last e = absurd (cc)
  atom_fault o at v k b opening i bl w last e = between_kind o (o + 1) _ b opening i bl (λ h. absurd (cc)) (no_tail k _ ∙ sym last) e
  atom_fault o at v k b closing i bl w last e = between_kind o (o + 1) _ b closing i bl (λ h. absurd (cc)) (no_tail k _ ∙ sym last) e
  atom_fault o at v k b mark i bl w last e = between_kind o (o + 1) _ b mark i bl (λ h. absurd (cc)) (no_tail k _ ∙ sym last) e
  atom_fault o at v k b semicolon i bl w last e = absurd (cc)
  atom_fault o at v k b other i bl w last e = same_kind e

  after_fault : (o : ℕ) (k : Stack) (b : ℕ) (c : Class) → class b ≡ c → Blank (o + 1) k → atom_at_end [] p ≡ []
      → is_dot (class (last_byte false 0 p)) ≡ true → is_tail k ≡ true → step_dot o k b c ≡ bad n kind → HasKind p c kind
  after_fault o k b blank i bl run last tail e = absurd (cc)
  after_fault o k b opening i bl run last tail e = between_kind o (o + 1) k b opening i bl (λ h. run) (tail ∙ sym last) e
  after_fault o k b mark i bl run last tail e = between_kind o (o + 1) k b mark i bl (λ h. run) (tail ∙ sym last) e
  after_fault o k b semicolon i bl run last tail e = absurd (cc)
  after_fault o k b letter i bl run last tail e = same_kind e ∙ ap atom_kind (sym run)
  after_fault o k b digit i bl run last tail e = same_kind e ∙ ap atom_kind (sym run)
  after_fault o k b plus i bl run last tail e = same_kind e ∙ ap atom_kind (sym run)
  after_fault o k b minus i bl run last tail e = same_kind e ∙ ap atom_kind (sym run)
  after_fault o k b closing i bl run last tail e = same_kind e ∙ ap (λ x. if x then BadDot else StrayClose) (sym last)
  after_fault o k b dot i bl run last tail e = same_kind e
  after_fault o k b other i bl run last tail e = same_kind e

  no_comment : (o : ℕ) (k : Stack) (c : Bool) → (if c then between (o + 1) k else in_comment (o + 1) k) ≡ bad n kind → Prim.⊥
  no_comment o k true e = absurd (cc)
  no_comment o k false e = absurd (cc)

  fault_kind : (s : State) (b : ℕ) → scan start p ≡ s → IsGood s → Runs s (atom_at_end [] p) → LastsTo s (last_byte false 0 p) → step s b ≡ bad n kind → HasKind p (class b) kind
  unfolding Blank
  fault_kind (between o k) b is g run (c, last) e = between_kind o (o + 1) k b (class b) refl (scan_append start p (32 ∷ 97 ∷ []) ∙ ap (λ s. scan s (32 ∷ 97 ∷ [])) is) (λ h. run) last.1 e
  fault_kind (in_comment o k) b is g run last e = absurd (no_comment o k (b == 10) e)
  fault_kind (in_atom o at v k) b is g run (c, last) e = atom_fault o at v k b (class b) refl (scan_append start p (32 ∷ 97 ∷ []) ∙ ap (λ s. scan s (32 ∷ 97 ∷ [])) is) run last.1 e
  fault_kind (after_dot o k) b is g run (c, last) e = after_fault o k b (class b) refl (scan_append start p (32 ∷ 97 ∷ []) ∙ ap (λ s. scan s (32 ∷ 97 ∷ [])) is) run last.1 last.2 e
  fault_kind (bad at h) b is g run last e = absurd (cc)

first_fault : (b : List ℕ) (n : ℕ) (kind : FaultKind) → FaultsAt b n → FirstBad start 0 b n kind → ByteFault b n kind
first_fault b n kind least h =
    let place : n ≡ length h.front = omega (arith, h.is_at) in
    let steps : step (scan start h.front) h.byte ≡ bad n kind = sym (scan_append start h.front (h.byte ∷ [])) ∙ h.bad_then in
    record {
      least = least;
      front = h.front;
      byte = h.byte;
      rest = h.rest;
      parts = h.parts;
      place = place;
      has_kind = fault_kind h.front n kind (scan start h.front) h.byte refl h.good (runs h.front start [] refl) (lasts h.front start false 0 (refl, refl)) steps;
    }

pub text_fault : (b : List ℕ) (n : ℕ) (kind : FaultKind) → scan start b ≡ bad n kind → ByteFault b n kind
text_fault b n kind e = first_fault b n kind (fault_is b n kind e) (subst (Reached start 0 b) e (reaches b start refl))
