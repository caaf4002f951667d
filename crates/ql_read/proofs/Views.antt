-- Stacks and forms that grow at their ends.
use Rattle.std.proofs.Common.{zero, suc, slice_get, Some, ◌==◌, arith, length, ◌<◌, ◌≤◌, ◌+◌, true, false, ◌≡◌, ℕ, List, [], ◌∷◌, ◌++◌, ◌-◌, take, refl, sym, ap, ◌∙◌}
use Rattle.std.specs.Prelude.{ltb}
use Rattle.std.specs.Global.{Vec}
use Rattle.std.proofs.lemmas.Option.{slice_get_within}
use Rattle.std.proofs.lemmas.Bool.{lt-ltb, le-ltb, ne_eqb}
use Rattle.ql_forms.specs.Spelled.{Form, list_form, quote_form, Forms, none, more, plain, with_tail}
use Rattle.ql_forms.specs.View.{spelling_of, spellings_of}
use Rattle.ql_forms.specs.declared.form.Form.{Form as Value}
use Rattle.ql_base.specs.declared.refusal.FaultKind.TheVariants.{BadDot, TooDeep}
use Rattle.ql_read.specs.Scan.{Stack, top, in_list, in_tail, past_tail, in_quote, depth, onto, push, State, between, after_dot, bad, close, put_dot}
use Rattle.ql_read.specs.View.{backward, frame_on, frames_on, stack_of, deeper_at, is_past}
use Rattle.ql_read.specs.declared.nesting.Frame.{Frame}
use Rattle.ql_read.specs.declared.nesting.Frame.TheVariants.{InList, InTail, PastTail, InQuote}

pub in_order_is : (names : List (List ℕ)) (gs : Forms) (xs : List Value) → onto (backward names gs xs) none ≡ onto gs (spellings_of names xs)
in_order_is names gs [] = refl
in_order_is names gs (x ∷ xs) = in_order_is names (more (spelling_of names x) gs) xs

pub first_of : (n : ℕ) (fs gs : List Frame) → n ≡ 0 → gs ≡ take (n - 1) fs → gs ≡ []
first_of n fs gs e h = h ∙ ap (λ m. take (m - 1) fs) e

-- All of this is with the same names.
module _ (names : List (List ℕ)) where
  frames_last : (k : Stack) (fs : List Frame) (f : Frame) → frames_on names k (fs ++ f ∷ []) ≡ frame_on names (frames_on names k fs) f
  frames_last k [] f = refl
  frames_last k (g ∷ fs) f = frames_last (frame_on names k g) fs f

  forms_last : (gs : Forms) (xs : List Value) (x : Value) → backward names gs (xs ++ x ∷ []) ≡ more (spelling_of names x) (backward names gs xs)
  forms_last gs [] x = refl
  forms_last gs (y ∷ xs) x = forms_last (more (spelling_of names y) gs) xs x

  -- a stack whose last frame is f
  on_last : (fs gs : List Frame) (f : Frame) (xs : List Value) → fs ≡ gs ++ f ∷ [] → stack_of names fs xs ≡ frame_on names (stack_of names gs xs) f
  on_last fs gs f xs e = ap (frames_on names (top (backward names none xs))) e ∙ frames_last (top (backward names none xs)) gs f

  pub put_top : (fs gs : List Frame) (xs ys : List Value) (x : Value) → gs ≡ [] → fs ≡ gs ++ [] → ys ≡ xs ++ x ∷ [] → stack_of names gs ys ≡ push (spelling_of names x) (stack_of names fs xs)
  put_top fs gs xs ys x e h i = let j : fs ≡ [] = h ∙ ap (λ z. z ++ []) e in rw (e, j, i) (ap top (forms_last none xs x))

  pub put_quote : (fs gs : List Frame) (xs : List Value) (at : ℕ) (f : Form) → fs ≡ gs ++ InQuote at ∷ [] → push (quote_form at f) (stack_of names gs xs) ≡ push f (stack_of names fs xs)
  put_quote fs gs xs at f h = ap (push f) (sym (on_last fs gs (InQuote at) xs h))

  pub put_list : (fs gs hs : List Frame) (xs : List Value) (at : ℕ) (v w : Vec Value) (x : Value) → fs ≡ gs ++ InList at v ∷ [] → w.items ≡ v.items ++ x ∷ [] → hs ≡ gs ++ InList at w ∷ []
      → stack_of names hs xs ≡ push (spelling_of names x) (stack_of names fs xs)
  put_list fs gs hs xs at v w x e h i =
      let longer : backward names none w.items ≡ more (spelling_of names x) (backward names none v.items) = ap (backward names none) h ∙ forms_last none v.items x in
      on_last hs gs (InList at w) xs i ∙ ap (λ z. in_list at z (stack_of names gs xs)) longer ∙ ap (push (spelling_of names x)) (sym (on_last fs gs (InList at v) xs e))

  pub put_tail : (fs gs hs : List Frame) (xs : List Value) (at : ℕ) (v : Vec Value) (x : Value) → fs ≡ gs ++ InTail at v ∷ [] → hs ≡ gs ++ PastTail at v x ∷ [] → stack_of names hs xs ≡ push (spelling_of names x) (stack_of names fs xs)
  put_tail fs gs hs xs at v x e h = on_last hs gs (PastTail at v x) xs h ∙ ap (push (spelling_of names x)) (sym (on_last fs gs (InTail at v) xs e))

  pub put_past : (fs gs hs : List Frame) (xs : List Value) (at : ℕ) (v : Vec Value) (x y : Value) → fs ≡ gs ++ PastTail at v y ∷ [] → hs ≡ gs ++ PastTail at v y ∷ [] → stack_of names hs xs ≡ push (spelling_of names x) (stack_of names fs xs)
  put_past fs gs hs xs at v x y e h = on_last hs gs (PastTail at v y) xs h ∙ ap (push (spelling_of names x)) (sym (on_last fs gs (PastTail at v y) xs e))

  depth_is : (k : Stack) (fs : List Frame) → depth (frames_on names k fs) ≡ length fs + depth k
  depth_is k [] = omega arith
  depth_is k (InList at v ∷ fs) = let h : depth (frames_on names (in_list at (backward names none v.items) k) fs) ≡ length fs + (depth k + 1) = depth_is (in_list at (backward names none v.items) k) fs in omega (arith, h)
  depth_is k (InTail at v ∷ fs) = let h : depth (frames_on names (in_tail at (backward names none v.items) k) fs) ≡ length fs + (depth k + 1) = depth_is (in_tail at (backward names none v.items) k) fs in omega (arith, h)
  depth_is k (PastTail at v x ∷ fs) = let h : depth (frames_on names (past_tail at (backward names none v.items) (spelling_of names x) k) fs) ≡ length fs + (depth k + 1) = depth_is (past_tail at (backward names none v.items) (spelling_of names x) k) fs in omega (arith, h)
  depth_is k (InQuote at ∷ fs) = let h : depth (frames_on names (in_quote at k) fs) ≡ length fs + (depth k + 1) = depth_is (in_quote at k) fs in omega (arith, h)

  pub deeper_fits : (o : ℕ) (f : Frame) (fs gs : List Frame) (xs : List Value) → length fs < 200 → gs ≡ fs ++ f ∷ [] → between (o + 1) (stack_of names gs xs) ≡ deeper_at names o f (stack_of names fs xs)
  deeper_fits o f fs gs xs lt e =
      let h : depth (frames_on names (top (backward names none xs)) fs) ≡ length fs + 0 = depth_is (top (backward names none xs)) fs in
      let room : ltb (depth (stack_of names fs xs)) 200 ≡ true = lt-ltb _ _ (omega (arith, h, lt)) in
      rw room (ap (between (o + 1)) (on_last gs fs f xs e))

  pub deeper_not : (o : ℕ) (f : Frame) (fs : List Frame) (xs : List Value) → 200 ≤ length fs → bad o TooDeep ≡ deeper_at names o f (stack_of names fs xs)
  deeper_not o f fs xs le =
      let h : depth (frames_on names (top (backward names none xs)) fs) ≡ length fs + 0 = depth_is (top (backward names none xs)) fs in
      let room : ltb (depth (stack_of names fs xs)) 200 ≡ false = le-ltb _ _ (omega (arith, h, le)) in
      rw room refl

  pub close_list : (o at : ℕ) (fs gs : List Frame) (v : Vec Value) (xs : List Value) (k : Stack) (f : Form) → fs ≡ gs ++ InList at v ∷ [] → k ≡ push f (stack_of names gs xs) → f ≡ list_form at (spellings_of names v.items) plain
      → between (o + 1) k ≡ close o (stack_of names fs xs)
  close_list o at fs gs v xs k f e h i =
      ap (between (o + 1)) (h ∙ ap (λ g. push g (stack_of names gs xs)) (i ∙ ap (λ z. list_form at z plain) (sym (in_order_is names none v.items))))
      ∙ ap (close o) (sym (on_last fs gs (InList at v) xs e))

  pub close_past : (o at : ℕ) (fs gs : List Frame) (v : Vec Value) (y : Value) (xs : List Value) (k : Stack) (f : Form) → fs ≡ gs ++ PastTail at v y ∷ [] → k ≡ push f (stack_of names gs xs)
      → f ≡ list_form at (spellings_of names v.items) (with_tail (spelling_of names y)) → between (o + 1) k ≡ close o (stack_of names fs xs)
  close_past o at fs gs v y xs k f e h i =
      ap (between (o + 1)) (h ∙ ap (λ g. push g (stack_of names gs xs)) (i ∙ ap (λ z. list_form at z (with_tail (spelling_of names y))) (sym (in_order_is names none v.items))))
      ∙ ap (close o) (sym (on_last fs gs (PastTail at v y) xs e))

  pub close_bad : (o : ℕ) (s : State) (fs gs : List Frame) (f : Frame) (xs : List Value) → fs ≡ gs ++ f ∷ [] → close o (frame_on names (stack_of names gs xs) f) ≡ s → s ≡ close o (stack_of names fs xs)
  close_bad o s fs gs f xs e h = sym (ap (close o) (on_last fs gs f xs e) ∙ h)

  backward_more : (f : Form) (fs : Forms) (xs : List Value) → (g : Form) × (gs : Forms) × (backward names (more f fs) xs ≡ more g gs)
  backward_more f fs [] = (f, fs, refl)
  backward_more f fs (x ∷ xs) = backward_more (spelling_of names x) (more f fs) xs

  pub dot_bad : (o : ℕ) (fs gs : List Frame) (f : Frame) (xs : List Value) → fs ≡ gs ++ f ∷ [] → put_dot o (frame_on names (stack_of names gs xs) f) ≡ bad o BadDot → bad o BadDot ≡ put_dot o (stack_of names fs xs)
  dot_bad o fs gs f xs e h = sym (ap (put_dot o) (on_last fs gs f xs e) ∙ h)

  pub dot_empty : (o at n : ℕ) (k : Stack) (ys : List Value) → n ≡ length ys → true ≡ (n == 0) → put_dot o (in_list at (backward names none ys) k) ≡ bad o BadDot
  dot_empty o at n k [] e h = refl
  dot_empty o at n k (y ∷ ys) e h = let z : (n == 0) ≡ false = ne_eqb _ _ (λ i. omega (arith, e, i)) in absurd (cc)

  dot_some : (o at n : ℕ) (k : Stack) (ys : List Value) → n ≡ length ys → false ≡ (n == 0) → put_dot o (in_list at (backward names none ys) k) ≡ after_dot (o + 1) (in_tail at (backward names none ys) k)
  dot_some o at n k [] e h = let z : (n == 0) ≡ true = rw e refl in absurd (cc)
  dot_some o at n k (y ∷ ys) e h = let (g, gs, i) = backward_more (spelling_of names y) none ys in rw i refl

  pub dot_list : (o at : ℕ) (fs gs hs : List Frame) (v : Vec Value) (xs : List Value) (n : ℕ) → fs ≡ gs ++ InList at v ∷ [] → hs ≡ gs ++ InTail at v ∷ [] → n ≡ length v.items → false ≡ (n == 0)
      → after_dot (o + 1) (stack_of names hs xs) ≡ put_dot o (stack_of names fs xs)
  dot_list o at fs gs hs v xs n e h len some = ap (after_dot (o + 1)) (on_last hs gs (InTail at v) xs h) ∙ sym (ap (put_dot o) (on_last fs gs (InList at v) xs e) ∙ dot_some o at n (stack_of names gs xs) v.items len some)

  frame_past : (k : Stack) (f : Frame) → is_past (frame_on names k f) ≡ is_past (frame_on names (top none) f)
  frame_past k (InList at v) = refl
  frame_past k (InTail at v) = refl
  frame_past k (PastTail at v x) = refl
  frame_past k (InQuote at) = refl

  -- the innermost frame says it
  past_on : (fs : List Frame) (k : Stack) (f : Frame) (i : ℕ) → slice_get fs i ≡ Some f → i + 1 ≡ length fs → is_past (frames_on names k fs) ≡ is_past (frame_on names (top none) f)
  past_on [] k f i e h = absurd (omega (arith, h))
  past_on (g ∷ []) k f zero e h = let same : g ≡ f = cc in frame_past k g ∙ ap (λ x. is_past (frame_on names (top none) x)) same
  past_on (g ∷ []) k f (suc i) e h = absurd (omega (arith, h))
  past_on (g ∷ (b ∷ fs)) k f zero e h = absurd (omega (arith, h))
  past_on (g ∷ (b ∷ fs)) k f (suc i) e h = past_on (b ∷ fs) (frame_on names k g) f i e (omega (arith, h))

  pub past_last : (fs gs : List Frame) (xs : List Value) (f g : Frame) → Some g ≡ slice_get gs (length gs - 1) → g ≡ f → gs ≡ fs → is_past (frame_on names (top none) f) ≡ is_past (stack_of names fs xs)
  past_last fs gs xs f g e same all =
      let within : length gs - 1 < length gs = slice_get_within gs (length gs - 1) g (sym e) in
      sym (ap (λ z. is_past (stack_of names z xs)) (sym all) ∙ past_on gs (top (backward names none xs)) g (length gs - 1) (sym e) (omega (arith, within)) ∙ ap (λ x. is_past (frame_on names (top none) x)) same)
