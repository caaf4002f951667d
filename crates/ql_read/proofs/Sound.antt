-- What is read is spelled.
use Rattle.std.proofs.Common.{◌≡◌, ℕ, ◌+◌, ◌==◌, Bool, true, false, List, [], ◌∷◌, Option, Some, None, refl, sym, subst}
use Rattle.std.specs.Prelude.{ltb, if◌then◌else◌}
use Rattle.std.proofs.lemmas.Bool.{ltb-true}
use Rattle.ql_forms.specs.Bytes.{Class, blank, letter, digit, plus, minus, opening, closing, mark, semicolon, dot, other, class, is_atom}
use Rattle.ql_forms.specs.Spelled.{Form, list_form, quote_form, Forms, none, more, Ending, plain, with_tail}
use Rattle.ql_forms.specs.Spells.{Comment, at_end, at_line_feed, beyond, Gap, nothing, a_blank, a_comment, AfterAtom, Run, ends, goes_on, AfterDot, IsForm, an_atom, a_list, a_quote, AreItems, closed, an_item, a_tail, AreForms, ended, a_form, Spells}
use Rattle.ql_base.specs.declared.refusal.FaultKind.{FaultKind}
use Rattle.ql_base.specs.declared.refusal.FaultKind.TheVariants.{TooDeep}
use Rattle.ql_read.specs.Scan.{Token, first, next, token_form, Stack, top, in_list, in_tail, past_tail, in_quote, depth, onto, push, State, between, in_comment, in_atom, after_dot, bad, close, put_dot, form_in, step_between, atom_or_bad, step_atom, step_dot, step, start, whole, finish, has_any}
use Rattle.ql_read.proofs.Tokens.{Goes, goes_is}
use Rattle.ql_read.proofs.Complete.{run, IsOpen}

-- a gap and a closing parenthesis that ends the form f in what is open around it
abbrev Closes : (Form → ℕ → List ℕ → Type 0) → Form → ℕ → List ℕ → Type 0
Closes A f o t = (s : ℕ) × (c : ℕ) × (u : List ℕ) × Gap o t s (c ∷ u) × (class c ≡ closing) × A f (s + 1) u

module _ (F : Forms) where
  -- the form f has ended in k at p, and u completes all to the forms F
  abbrev After : Stack → Form → ℕ → List ℕ → Type 0
  After (top gs) f p u = (fs : Forms) × AreForms p u fs × (F ≡ onto gs (more f fs))
  After (in_list at gs k) f p u = (fs : Forms) × (e : Ending) × (q : ℕ) × (v : List ℕ) × AreItems (depth k + 1) true p u fs e q v × After k (list_form at (onto gs (more f fs)) e) q v
  After (in_tail at gs k) f p u = Closes (After k) (list_form at (onto gs none) (with_tail f)) p u
  After (past_tail at gs g k) f p u = Closes (After k) (list_form at (onto gs none) (with_tail g)) p u
  After (in_quote at k) f p u = After k (quote_form at f) p u

  -- t completes what is open to the forms F
  abbrev Between : Stack → ℕ → List ℕ → Type 0
  Between (top gs) o t = (fs : Forms) × AreForms o t fs × (F ≡ onto gs fs)
  Between (in_list at gs k) o t = (fs : Forms) × (e : Ending) × (q : ℕ) × (v : List ℕ) × AreItems (depth k + 1) (has_any gs) o t fs e q v × After k (list_form at (onto gs fs) e) q v
  Between (in_tail at gs k) o t = (f : Form) × (q : ℕ) × (v : List ℕ) × IsForm (depth k + 1) o t f q v × After (in_tail at gs k) f q v
  Between (past_tail at gs g k) o t = Closes (After k) (list_form at (onto gs none) (with_tail g)) o t
  Between (in_quote at k) o t = (f : Form) × (q : ℕ) × (v : List ℕ) × IsForm (depth k + 1) o t f q v × After k (quote_form at f) q v

  abbrev Completes : State → List ℕ → Type 0
  Completes (between o k) t = Between k o t
  Completes (in_comment o k) t = (p : ℕ) × (u : List ℕ) × Comment o t p u × Between k p u
  Completes (in_atom o at w k) t = (x : List ℕ) × (p : ℕ) × (u : List ℕ) × (v : Token) × Run o t x p u × Goes w x v × After k (token_form at v) p u
  Completes (after_dot o k) t = AfterDot t × Between k o t
  Completes (bad at kind) t = Prim.⊥

  pushed : (k : Stack) (f : Form) (p : ℕ) (u : List ℕ) → Between (push f k) p u → After k f p u
  pushed (top gs) f p u h = h
  pushed (in_list at gs k) f p u h = h
  pushed (in_tail at gs k) f p u h = h
  pushed (past_tail at gs g k) f p u h = h
  pushed (in_quote at k) f p u h = pushed k (quote_form at f) p u h

  begins : (k : Stack) (f : Form) (o : ℕ) (t : List ℕ) (p : ℕ) (u : List ℕ) → IsOpen k → IsForm (depth k) o t f p u → After k f p u → Between k o t
  begins (top gs) f o t p u can i (fs, is, e) = (more f fs, a_form i is, e)
  begins (in_list at gs k) f o t p u can i (fs, e, q, v, is, a) = (more f fs, e, q, v, an_item i is, a)
  begins (in_tail at gs k) f o t p u can i a = (f, p, u, i, a)
  begins (past_tail at gs g k) f o t p u can i a = absurd can
  begins (in_quote at k) f o t p u can i a = (f, p, u, i, a)

joins : {o p q : ℕ} {t u v : List ℕ} → Gap o t p u → Gap p u q v → Gap o t q v
joins nothing h = h
joins (a_blank e g) h = a_blank e (joins g h)
joins (a_comment e c g) h = a_comment e c (joins g h)

form_after : {d o p q : ℕ} {t u v : List ℕ} {f : Form} → Gap o t p u → IsForm d p u f q v → IsForm d o t f q v
form_after g (an_atom h a r is) = an_atom (joins g h) a r is
form_after g (a_list h e room is) = a_list (joins g h) e room is
form_after g (a_quote h e room i) = a_quote (joins g h) e room i

items_after : {d : ℕ} {some : Bool} {o p q : ℕ} {t u v : List ℕ} {fs : Forms} {e : Ending} → Gap o t p u → AreItems d some p u fs e q v → AreItems d some o t fs e q v
items_after g (closed h e) = closed (joins g h) e
items_after g (an_item i is) = an_item (form_after g i) is
items_after g (a_tail h e a i w c) = a_tail (joins g h) e a i w c

forms_after : {o p : ℕ} {t u : List ℕ} {fs : Forms} → Gap o t p u → AreForms p u fs → AreForms o t fs
forms_after g (ended h) = ended (joins g h)
forms_after g (a_form i is) = a_form (form_after g i) is

skips : {o p : ℕ} {t u : List ℕ} (F : Forms) (k : Stack) → Gap o t p u → Between F k p u → Between F k o t
skips F (top gs) g (fs, is, e) = (fs, forms_after g is, e)
skips F (in_list at gs k) g (fs, e, q, v, is, a) = (fs, e, q, v, items_after g is, a)
skips F (in_tail at gs k) g (f, q, v, i, a) = (f, q, v, form_after g i, a)
skips F (past_tail at gs f k) g (s, c, u, h, e, a) = (s, c, u, joins g h, e, a)
skips F (in_quote at k) g (f, q, v, i, a) = (f, q, v, form_after g i, a)

module _ (F : Forms) where
  chosen : (c : Bool) (s : State) (n : ℕ) (kind : FaultKind) (t : List ℕ) → Completes F (if c then s else bad n kind) t → (c ≡ true) × Completes F s t
  chosen true s n kind t h = (refl, h)
  chosen false s n kind t h = absurd h

  where_open : (o : ℕ) (k : Stack) (s : State) (t : List ℕ) → Completes F (form_in o k s) t → IsOpen k × Completes F s t
  where_open o (top gs) s t h = (tt, h)
  where_open o (in_list at gs k) s t h = (tt, h)
  where_open o (in_tail at gs k) s t h = (tt, h)
  where_open o (past_tail at gs f k) s t h = absurd h
  where_open o (in_quote at k) s t h = (tt, h)

  closes : (o b : ℕ) (k : Stack) (t : List ℕ) → class b ≡ closing → Completes F (close o k) t → Between F k o (b ∷ t)
  closes o b (top gs) t e h = absurd h
  closes o b (in_list at gs k) t e h = (none, plain, o + 1, t, closed nothing e, pushed F k (list_form at (onto gs none) plain) (o + 1) t h)
  closes o b (in_tail at gs k) t e h = absurd h
  closes o b (past_tail at gs f k) t e h = (o, b, t, nothing, e, pushed F k (list_form at (onto gs none) (with_tail f)) (o + 1) t h)
  closes o b (in_quote at k) t e h = absurd h

  dots : (o b : ℕ) (k : Stack) (t : List ℕ) → class b ≡ dot → Completes F (put_dot o k) t → Between F k o (b ∷ t)
  dots o b (top gs) t e h = absurd h
  dots o b (in_list at none k) t e h = absurd h
  dots o b (in_list at (more g gs) k) t e (after, (f, q, v, i, (s, c, u, w, cl, a))) = (none, with_tail f, s + 1, u, a_tail nothing e after i w cl, a)
  dots o b (in_tail at gs k) t e h = absurd h
  dots o b (past_tail at gs f k) t e h = absurd h
  dots o b (in_quote at k) t e h = absurd h

  atom_back : (o : ℕ) (k : Stack) (b : ℕ) (t : List ℕ) → is_atom (class b) ≡ true → Completes F (form_in o k (in_atom (o + 1) o (first b (class b)) k)) t → Between F k o (b ∷ t)
  atom_back o k b t e h =
      let (can, (x, p, u, v, r, g, a)) = where_open o k (in_atom (o + 1) o (first b (class b)) k) t h in
      begins F k (token_form o v) o (b ∷ t) p u can (an_atom nothing e r (goes_is b x v g)) a

  back_between : (o : ℕ) (k : Stack) (b : ℕ) (t : List ℕ) (c : Class) → class b ≡ c → Completes F (step_between o k b c) t → Between F k o (b ∷ t)
  back_between o k b t blank e h = skips F k (a_blank e nothing) h
  back_between o k b t letter e h = atom_back o k b t (rw e refl) (rw e h)
  back_between o k b t digit e h = atom_back o k b t (rw e refl) (rw e h)
  back_between o k b t plus e h = atom_back o k b t (rw e refl) (rw e h)
  back_between o k b t minus e h = atom_back o k b t (rw e refl) (rw e h)
  back_between o k b t opening e h =
      let (can, h') = where_open o k _ t h in
      let (room, (fs, e', p, u, is, a)) = chosen (ltb (depth k) 200) (between (o + 1) (in_list o none k)) o TooDeep t h' in
      begins F k (list_form o fs e') o (b ∷ t) p u can (a_list nothing e (ltb-true _ _ room) is) a
  back_between o k b t closing e h = closes o b k t e h
  back_between o k b t mark e h =
      let (can, h') = where_open o k _ t h in
      let (room, (f, p, u, i, a)) = chosen (ltb (depth k) 200) (between (o + 1) (in_quote o k)) o TooDeep t h' in
      begins F k (quote_form o f) o (b ∷ t) p u can (a_quote nothing e (ltb-true _ _ room) i) a
  back_between o k b t semicolon e (p, u, c, h) = skips F k (a_comment e c nothing) h
  back_between o k b t dot e h = dots o b k t e h
  back_between o k b t other e h = absurd h

  atom_done : (o at : ℕ) (w : Token) (k : Stack) (t : List ℕ) → AfterAtom t → Between F (push (token_form at w) k) o t → Completes F (in_atom o at w k) t
  atom_done o at w k t h i = ([], o, t, w, ends h, refl, pushed F k (token_form at w) o t i)

  atom_more : (o at : ℕ) (w : Token) (k : Stack) (b : ℕ) (t : List ℕ) (z : Option Token) → is_atom (class b) ≡ true → next w b (class b) ≡ z
      → Completes F (atom_or_bad o at w k z) t → Completes F (in_atom o at w k) (b ∷ t)
  atom_more o at w k b t (Some y) e n (x, p, u, v, r, g, a) = (b ∷ x, p, u, v, goes_on e r, (y, n, g), a)
  atom_more o at w k b t None e n h = absurd h

  back_atom : (o at : ℕ) (w : Token) (k : Stack) (b : ℕ) (t : List ℕ) (c : Class) → class b ≡ c → Completes F (step_atom o at w k b c) t → Completes F (in_atom o at w k) (b ∷ t)
  back_atom o at w k b t letter e h = atom_more o at w k b t (next w b letter) (rw e refl) (rw e refl) h
  back_atom o at w k b t digit e h = atom_more o at w k b t (next w b digit) (rw e refl) (rw e refl) h
  back_atom o at w k b t plus e h = atom_more o at w k b t (next w b plus) (rw e refl) (rw e refl) h
  back_atom o at w k b t minus e h = atom_more o at w k b t (next w b minus) (rw e refl) (rw e refl) h
  back_atom o at w k b t dot e h = absurd h
  back_atom o at w k b t blank e h = atom_done o at w k (b ∷ t) (rw e refl) (back_between o (push (token_form at w) k) b t blank e h)
  back_atom o at w k b t opening e h = atom_done o at w k (b ∷ t) (rw e refl) (back_between o (push (token_form at w) k) b t opening e h)
  back_atom o at w k b t closing e h = atom_done o at w k (b ∷ t) (rw e refl) (back_between o (push (token_form at w) k) b t closing e h)
  back_atom o at w k b t mark e h = atom_done o at w k (b ∷ t) (rw e refl) (back_between o (push (token_form at w) k) b t mark e h)
  back_atom o at w k b t semicolon e h = atom_done o at w k (b ∷ t) (rw e refl) (back_between o (push (token_form at w) k) b t semicolon e h)
  back_atom o at w k b t other e h = absurd h

  back_dot : (o : ℕ) (k : Stack) (b : ℕ) (t : List ℕ) (c : Class) → class b ≡ c → Completes F (step_dot o k b c) t → Completes F (after_dot o k) (b ∷ t)
  back_dot o k b t blank e h = (rw e refl, back_between o k b t blank e h)
  back_dot o k b t opening e h = (rw e refl, back_between o k b t opening e h)
  back_dot o k b t mark e h = (rw e refl, back_between o k b t mark e h)
  back_dot o k b t semicolon e h = (rw e refl, back_between o k b t semicolon e h)
  back_dot o k b t letter e h = absurd h
  back_dot o k b t digit e h = absurd h
  back_dot o k b t plus e h = absurd h
  back_dot o k b t minus e h = absurd h
  back_dot o k b t closing e h = absurd h
  back_dot o k b t dot e h = absurd h
  back_dot o k b t other e h = absurd h

  back_comment : (o : ℕ) (k : Stack) (b : ℕ) (t : List ℕ) (c : Bool) → (b == 10) ≡ c → Completes F (if c then between (o + 1) k else in_comment (o + 1) k) t → Completes F (in_comment o k) (b ∷ t)
  back_comment o k b t true e h = (o + 1, t, at_line_feed e, h)
  back_comment o k b t false e (p, u, c, h) = (p, u, beyond e c, h)

  back : (s : State) (b : ℕ) (t : List ℕ) → Completes F (step s b) t → Completes F s (b ∷ t)
  back (between o k) b t h = back_between o k b t (class b) refl h
  back (in_comment o k) b t h = back_comment o k b t (b == 10) refl h
  back (in_atom o at w k) b t h = back_atom o at w k b t (class b) refl h
  back (after_dot o k) b t h = back_dot o k b t (class b) refl h
  back (bad at kind) b t h = h

  same_forms : (x : Forms) → Some x ≡ Some F → F ≡ x
  same_forms x e = cc

  at_last : (k : Stack) (o : ℕ) → whole k ≡ Some F → Between F k o []
  at_last (top gs) o e = (none, ended nothing, same_forms (onto gs none) e)
  at_last (in_list at gs k) o e = absurd (cc)
  at_last (in_tail at gs k) o e = absurd (cc)
  at_last (past_tail at gs f k) o e = absurd (cc)
  at_last (in_quote at k) o e = absurd (cc)

  last : (s : State) → finish s ≡ Some F → Completes F s []
  last (between o k) e = at_last k o e
  last (in_comment o k) e = (o, [], at_end, at_last k o e)
  last (in_atom o at w k) e = atom_done o at w k [] tt (at_last (push (token_form at w) k) o e)
  last (after_dot o k) e = absurd (cc)
  last (bad at kind) e = absurd (cc)

  completes : (t : List ℕ) (s : State) → run s t ≡ Some F → Completes F s t
  completes [] s e = last s e
  completes (b ∷ t) s e = back s b t (completes t (step s b) e)

pub sound : (b : List ℕ) (fs : Forms) → run start b ≡ Some fs → Spells b fs
sound b fs e = let (gs, is, same) = completes fs b start e in subst (Spells b) (sym same) is
