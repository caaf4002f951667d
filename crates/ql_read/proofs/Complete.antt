-- What is spelled is read.
use Rattle.std.proofs.Common.{◌≡◌, ℕ, ◌+◌, Bool, true, List, [], ◌∷◌, Option, Some, refl, ap, ◌∙◌, arith}
use Rattle.std.specs.Prelude.{ltb, if◌then◌else◌}
use Rattle.std.proofs.lemmas.Bool.{lt-ltb}
use Rattle.ql_forms.specs.Bytes.{Class, blank, letter, digit, plus, minus, opening, closing, mark, semicolon, dot, other, class, is_atom, ends_atom, begins_tail}
use Rattle.ql_forms.specs.Spelled.{Form, list_form, Forms, none, more, Ending, atom}
use Rattle.ql_forms.specs.Spells.{Comment, at_end, at_line_feed, beyond, Gap, nothing, a_blank, a_comment, AfterAtom, Run, ends, goes_on, AfterDot, IsForm, an_atom, a_list, a_quote, AreItems, closed, an_item, a_tail, AreForms, ended, a_form, Spells}
use Rattle.ql_read.specs.Scan.{Token, first, next, token_form, Stack, top, in_list, in_tail, past_tail, in_quote, depth, onto, push, State, between, in_comment, in_atom, after_dot, form_in, step_between, atom_or_bad, step_atom, step_dot, scan, start, finish, has_any}
use Rattle.ql_read.proofs.Tokens.{Goes, atom_ends}

abbrev pub run : State → List ℕ → Option Forms
run s t = finish (scan s t)

-- a byte of this class is next
at_class : (o b : ℕ) (k : Stack) (t : List ℕ) {c : Class} → class b ≡ c → run (between o k) (b ∷ t) ≡ run (step_between o k b c) t
at_class o b k t e = ap (λ x. run (step_between o k b x) t) e

if_true : {b : Bool} (x y : State) (t : List ℕ) → b ≡ true → run (if b then x else y) t ≡ run x t
if_true x y t e = rw e refl

comment_passes : {o p : ℕ} {t u : List ℕ} → Comment o t p u → (k : Stack) → run (in_comment o k) t ≡ run (between p k) u
comment_passes at_end k = refl
comment_passes (at_line_feed e) k = rw e refl
comment_passes (beyond e c) k = rw e (comment_passes c k)

gap_passes : {o p : ℕ} {t u : List ℕ} → Gap o t p u → (k : Stack) → run (between o k) t ≡ run (between p k) u
gap_passes nothing k = refl
gap_passes (a_blank e g) k = rw e (gap_passes g k)
gap_passes (a_comment e c g) k = rw e (comment_passes c k ∙ gap_passes g k)

pub atom_ended : (o at b : ℕ) (w : Token) (k : Stack) (c : Class) → ends_atom c ≡ true → step_atom o at w k b c ≡ step_between o (push (token_form at w) k) b c
atom_ended o at b w k blank h = refl
atom_ended o at b w k letter h = absurd (cc)
atom_ended o at b w k digit h = absurd (cc)
atom_ended o at b w k plus h = absurd (cc)
atom_ended o at b w k minus h = absurd (cc)
atom_ended o at b w k opening h = refl
atom_ended o at b w k closing h = refl
atom_ended o at b w k mark h = refl
atom_ended o at b w k semicolon h = refl
atom_ended o at b w k dot h = absurd (cc)
atom_ended o at b w k other h = refl

pub atom_goes : (o at b : ℕ) (w : Token) (k : Stack) (c : Class) → is_atom c ≡ true → step_atom o at w k b c ≡ atom_or_bad o at w k (next w b c)
atom_goes o at b w k letter h = refl
atom_goes o at b w k digit h = refl
atom_goes o at b w k plus h = refl
atom_goes o at b w k minus h = refl
atom_goes o at b w k blank h = absurd (cc)
atom_goes o at b w k opening h = absurd (cc)
atom_goes o at b w k closing h = absurd (cc)
atom_goes o at b w k mark h = absurd (cc)
atom_goes o at b w k semicolon h = absurd (cc)
atom_goes o at b w k dot h = absurd (cc)
atom_goes o at b w k other h = absurd (cc)

pub atom_starts : (o b : ℕ) (k : Stack) (c : Class) → is_atom c ≡ true → step_between o k b c ≡ form_in o k (in_atom (o + 1) o (first b c) k)
atom_starts o b k letter h = refl
atom_starts o b k digit h = refl
atom_starts o b k plus h = refl
atom_starts o b k minus h = refl
atom_starts o b k blank h = absurd (cc)
atom_starts o b k opening h = absurd (cc)
atom_starts o b k closing h = absurd (cc)
atom_starts o b k mark h = absurd (cc)
atom_starts o b k semicolon h = absurd (cc)
atom_starts o b k dot h = absurd (cc)
atom_starts o b k other h = absurd (cc)

pub tail_begins : (o b : ℕ) (k : Stack) (c : Class) → begins_tail c ≡ true → step_dot o k b c ≡ step_between o k b c
tail_begins o b k blank h = refl
tail_begins o b k opening h = refl
tail_begins o b k mark h = refl
tail_begins o b k semicolon h = refl
tail_begins o b k letter h = absurd (cc)
tail_begins o b k digit h = absurd (cc)
tail_begins o b k plus h = absurd (cc)
tail_begins o b k minus h = absurd (cc)
tail_begins o b k closing h = absurd (cc)
tail_begins o b k dot h = absurd (cc)
tail_begins o b k other h = absurd (cc)

dot_passes : (o : ℕ) (k : Stack) (t : List ℕ) → AfterDot t → run (after_dot o k) t ≡ run (between o k) t
dot_passes o k [] h = absurd h
dot_passes o k (b ∷ t) h = ap (λ s. run s t) (tail_begins o b k (class b) h)

-- a form may begin
abbrev pub IsOpen : Stack → Type 0
IsOpen (past_tail at gs f k) = Prim.⊥
IsOpen k = Prim.Unit {0}

pub form_is_in : (o : ℕ) (k : Stack) (s : State) → IsOpen k → form_in o k s ≡ s
form_is_in o (top gs) s h = refl
form_is_in o (in_list at gs k) s h = refl
form_is_in o (in_tail at gs k) s h = refl
form_is_in o (past_tail at gs f k) s h = absurd h
form_is_in o (in_quote at k) s h = refl

ends_here : (o at : ℕ) (w : Token) (t : List ℕ) (k : Stack) → AfterAtom t → run (in_atom o at w k) t ≡ run (between o (push (token_form at w) k)) t
ends_here o at w [] k h = refl
ends_here o at w (b ∷ t) k h = ap (λ s. run s t) (atom_ended o at b w k (class b) h)

run_passes : {o p : ℕ} {t x u : List ℕ} → Run o t x p u → (at : ℕ) (w v : Token) (k : Stack) → Goes w x v → run (in_atom o at w k) t ≡ run (between p (push (token_form at v) k)) u
run_passes (ends {o = o} {t = t} h) at w v k e = ends_here o at w t k h ∙ ap (λ y. run (between o (push (token_form at y) k)) t) e
run_passes (goes_on {o = o} {b = b} {t = t} a r) at w v k (y, e, g) =
    ap (λ s. run s t) (atom_goes o at b w k (class b) a) ∙ ap (λ z. run (atom_or_bad o at w k z) t) e ∙ run_passes r at y v k g

mutual
  form_passes : {d o p : ℕ} {t u : List ℕ} {f : Form} → IsForm d o t f p u → (k : Stack) → depth k ≡ d → IsOpen k → run (between o k) t ≡ run (between p (push f k)) u
  form_passes (an_atom {b = b} {q = q} {p = p} {v = v} {u = u} g a r is) k h can =
      let (x, goes, same) = atom_ends is in
      gap_passes g k ∙ ap (λ s. run s v) (atom_starts q b k (class b) a ∙ form_is_in q k _ can)
      ∙ run_passes r q (first b (class b)) x k goes ∙ ap (λ a. run (between p (push (atom q a) k)) u) same
  form_passes (a_list {b = b} {q = q} {v = v} g e room is) k h can =
      let fits : ltb (depth k) 200 ≡ true = lt-ltb _ _ (omega (arith, h, room)) in
      gap_passes g k ∙ at_class q b k v e ∙ ap (λ s. run s v) (form_is_in q k _ can) ∙ if_true _ _ v fits ∙ items_pass is q none k (ap (λ n. n + 1) h) refl
  form_passes (a_quote {b = b} {q = q} {v = v} g e room f) k h can =
      let fits : ltb (depth k) 200 ≡ true = lt-ltb _ _ (omega (arith, h, room)) in
      gap_passes g k ∙ at_class q b k v e ∙ ap (λ s. run s v) (form_is_in q k _ can) ∙ if_true _ _ v fits ∙ form_passes f (in_quote q k) (ap (λ n. n + 1) h) tt

  items_pass : {d : ℕ} {some : Bool} {o p : ℕ} {t u : List ℕ} {fs : Forms} {e : Ending} → AreItems d some o t fs e p u → (at : ℕ) (gs : Forms) (k : Stack) → depth k + 1 ≡ d
      → has_any gs ≡ some → run (between o (in_list at gs k)) t ≡ run (between p (push (list_form at (onto gs fs) e) k)) u
  items_pass (closed {b = b} {q = q} {v = v} g e) at gs k h any = gap_passes g (in_list at gs k) ∙ at_class q b (in_list at gs k) v e
  items_pass (an_item {f = f} i is) at gs k h any = form_passes i (in_list at gs k) h tt ∙ items_pass is at (more f gs) k h refl
  items_pass (a_tail {b = b} {c = c} g e a i w cl) at none k h any = absurd (cc)
  items_pass (a_tail {q = q} {s = s} {b = b} {c = c} {u = u} {v = v} {f = f} g e a i w cl) at (more m gs) k h any =
      gap_passes g (in_list at (more m gs) k) ∙ at_class q b (in_list at (more m gs) k) v e ∙ dot_passes (q + 1) (in_tail at (more m gs) k) v a
      ∙ form_passes i (in_tail at (more m gs) k) h tt ∙ gap_passes w (past_tail at (more m gs) f k) ∙ at_class s c (past_tail at (more m gs) f k) u cl

forms_pass : {o : ℕ} {t : List ℕ} {fs : Forms} → AreForms o t fs → (gs : Forms) → run (between o (top gs)) t ≡ Some (onto gs fs)
forms_pass (ended g) gs = gap_passes g (top gs)
forms_pass (a_form {f = f} i is) gs = form_passes i (top gs) refl tt ∙ forms_pass is (more f gs)

pub complete : (b : List ℕ) (fs : Forms) → Spells b fs → run start b ≡ Some fs
complete b fs h = forms_pass h none
