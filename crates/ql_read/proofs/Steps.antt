-- One byte more, seen with later names.
use Rattle.std.proofs.Common.{◌≡◌, ℕ, ◌+◌, List, [], sym, ap, ◌∙◌, subst}
use Rattle.std.specs.Prelude.{if◌then◌else◌, ltb, IfOk, Result}
use Rattle.std.specs.Global.{Vec}
use Rattle.std.specs.declared.alloc.AllocError.{AllocError}
use Rattle.ql_forms.specs.Bytes.{Class}
use Rattle.ql_forms.specs.Spelled.{none}
use Rattle.ql_forms.specs.declared.form.Form.{Form as Value}
use Rattle.ql_read.specs.ByteClass.{start_told}
use Rattle.ql_base.specs.declared.refusal.FaultKind.TheVariants.{TooDeep}
use Rattle.ql_read.specs.Scan.{Token as Spelled, token_form, Stack, in_list, depth, push, State, between, bad, form_in, step_between, step_atom}
use Rattle.ql_read.specs.View.{backward, state_of, deeper_at, form_from}
use Rattle.ql_read.specs.declared.byte_class.FormStart.{FormStart}
use Rattle.ql_read.specs.declared.byte_class.FormStart.TheVariants.{Letter, Digit, Plus, Minus, Opening, Mark}
use Rattle.ql_read.specs.declared.nesting.Frame.TheVariants.{InList}
use Rattle.ql_read.specs.declared.token.Token.{Token}

-- an answer's state is this one, under these names
abbrev pub Answers : Result Token AllocError → ℕ → Stack → State → Type 0
Answers r o k s = IfOk r (λ t. state_of t (o + 1) k ≡ s)

pub answers_same : (r : Result Token AllocError) (o : ℕ) (k : Stack) (s t : State) → Answers r o k s → s ≡ t → Answers r o k t
answers_same r o k s t h e = subst (λ z. IfOk r (λ x. state_of x (o + 1) k ≡ z)) e h

pub opens : (later : List (List ℕ)) (o b : ℕ) (k : Stack) (s : FormStart) (v : Vec Value) → v.items ≡ [] → s ≡ Opening → deeper_at later o (InList o v) k ≡ form_from o k b (start_told s)
opens later o b k s v e i =
    ap (λ xs. if ltb (depth k) 200 then between (o + 1) (in_list o (backward later none xs) k) else bad o TooDeep) e ∙ sym (ap (λ z. form_from o k b (start_told z)) i)

pub starts : (o b : ℕ) (k : Stack) (s : FormStart) (y : Class) → start_told s ≡ y → form_in o k (form_from o k b (start_told s)) ≡ step_between o k b y
starts o b k Letter y e = ap (step_between o k b) e
starts o b k Digit y e = ap (step_between o k b) e
starts o b k Plus y e = ap (step_between o k b) e
starts o b k Minus y e = ap (step_between o k b) e
starts o b k Opening y e = ap (step_between o k b) e
starts o b k Mark y e = ap (step_between o k b) e

-- a byte that ends an atom
pub after_atom : (o at : ℕ) (w : Spelled) (j k : Stack) (b : ℕ) (y : Class) → j ≡ push (token_form at w) k → step_between o (push (token_form at w) k) b y ≡ step_atom o at w k b y
    → step_between o j b y ≡ step_atom o at w k b y
after_atom o at w j k b y e h = ap (λ z. step_between o z b y) e ∙ h
