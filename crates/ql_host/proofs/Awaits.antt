-- What an instruction wants where it waits for a future, and where it doesn't.
use Rattle.std.proofs.Common.{◌≡◌, ℕ, suc, ◌+◌, true, false, List, [], ◌∷◌, length, Option, Some, None, refl, sym, ap, ◌∙◌, arith}
use Rattle.std.specs.Prelude.{drop as without_first}
use Rattle.ql_world.specs.Word.{first_future, with_value}
use Rattle.ql_world.specs.declared.word.Word.{Word}
use Rattle.ql_world.specs.declared.word.Word.TheVariants.{Int as integer, Sym as symbol, Pair as pair, Fun as closure, Proc as process_closure, Fut as future}
use Rattle.ql_world.specs.declared.word.Slot.TheVariants.{Val as plain, Cell as boxed}
use Rattle.ql_world.specs.Operator.{operator_of}
use Rattle.ql_world.specs.Machine.{Want, awaits, rests, throws, branches, prints, chooses, makes, opens, replies, ends, with_word, Answer, got}
use Rattle.ql_world.specs.Touch.{await_or, await_word, compute_want, funcall_want}
use Rattle.ql_world.specs.Idle.{in_cleanup}
use Rattle.ql_code.specs.Code.{Instruction}
use Rattle.ql_code.specs.declared.code.Op.{Op}
use Rattle.ql_code.specs.declared.code.Op.TheVariants.{Lit as lit, Local as local, BoxGet as box_get, GlobalGet as global_get, BoxSet as box_set, GlobalSet as global_set, Branch as branch, Jump as jump, Drop as drop, Slide as slide, Bind as bind, Call as call, Return as return, Close as close, Funcall as funcall, FuncallDrop as funcall_drop, Touch as touch, Qlet as qlet, Join as join, Qlambda as qlambda, Catch as catch, Qcatch as qcatch, Exit as exit, Throw as throw, Protect as protect, Leave as leave, EndClean as end_clean, Prim as prim, Cons as cons, Print as print, End as end}
use Rattle.ql_code.specs.declared.mark.Mark.{Mark}
use Rattle.ql_code.specs.declared.mark.Mark.TheVariants.{Returning as returning, Catching as catching, Protecting as protecting, Cleaning as cleaning, Base as base}
use Rattle.ql_code.specs.Machine.{Item, slot, mark, Point, Entry, words, push, top_mark, cleanups_on, operand_count, one_want, throw_want, return_want, op_want, one_go, touch_go, unary_go, return_to, op_go, settled, branch_go, mode_go, word_go, catch_go, ended}
use Rattle.ql_code.specs.Operands.{operands_of}
use Rattle.ql_host.specs.Awaited.{replied, awaited, awaited_among}

-- the topmost word is the future
one_future : (st : List Item) (f : ℕ) → first_future (words 1 st) ≡ Some f → words 1 st ≡ future f ∷ []
one_future [] f e = absurd cc
one_future (mark k ∷ st) f e = absurd cc
one_future (slot (boxed n) ∷ st) f e = absurd cc
one_future (slot (plain (integer z)) ∷ st) f e = absurd cc
one_future (slot (plain (symbol n)) ∷ st) f e = absurd cc
one_future (slot (plain (pair n)) ∷ st) f e = absurd cc
one_future (slot (plain (closure n)) ∷ st) f e = absurd cc
one_future (slot (plain (process_closure n)) ∷ st) f e = absurd cc
one_future (slot (plain (future g)) ∷ st) f e = let z : g ≡ f = cc in ap (λ n. future n ∷ []) z

one_awaits : (st : List Item) (f at : ℕ) (want : Word → Want) → first_future (words 1 st) ≡ Some f → one_want (words 1 st) at want ≡ awaits f at
one_awaits st f at want e = ap (λ ws. one_want ws at want) (one_future st f e)

module _ (code : List Instruction) (v : Word) (pc : ℕ) where
  one_replaced : (st : List Item) (f : ℕ) (next : List Item → Point) → first_future (words 1 st) ≡ Some f
      → unary_go code (got v) pc st next ≡ settled code pc (push (with_value v (words 1 st)) (without_first 1 st))
  one_replaced st f next e = rw (one_future st f e) refl

  touch_replaced : (o : Option ℕ) (f : ℕ) (ws : List Word) (st : List Item) (next : Point) → o ≡ Some f → touch_go code o ws (got v) pc st next ≡ settled code pc (push (with_value v ws) st)
  touch_replaced o f ws st next e = ap (λ x. touch_go code x ws (got v) pc st next) e

  reply_replaced : (k : Option Mark) (st : List Item) (f : ℕ) → replied k (first_future (words 1 st)) ≡ Some f
      → return_to code k (got v) (words 1 st) pc st ≡ settled code pc (push (with_value v (words 1 st)) (without_first 1 st))
  reply_replaced None st f e = absurd cc
  reply_replaced (Some (returning l)) st f e = absurd cc
  reply_replaced (Some (catching c l)) st f e = absurd cc
  reply_replaced (Some (protecting u l)) st f e = absurd cc
  reply_replaced (Some (cleaning u c)) st f e = absurd cc
  reply_replaced (Some (base j)) st f e = rw (one_future st f e) refl

reply_awaits : (k : Option Mark) (st : List Item) (f at : ℕ) → replied k (first_future (words 1 st)) ≡ Some f → return_want k (words 1 st) at ≡ awaits f at
reply_awaits None st f at e = absurd cc
reply_awaits (Some (returning l)) st f at e = absurd cc
reply_awaits (Some (catching c l)) st f at e = absurd cc
reply_awaits (Some (protecting u l)) st f at e = absurd cc
reply_awaits (Some (cleaning u c)) st f at e = absurd cc
reply_awaits (Some (base j)) st f at e = one_awaits st f at replies e

or_awaits : (o : Option ℕ) (f at : ℕ) (want : Want) → o ≡ Some f → await_or o at want ≡ awaits f at
or_awaits o f at want e = ap (λ x. await_or x at want) e

throw_awaits : (ws : List Word) (f at : ℕ) → length ws ≡ 2 → first_future ws ≡ Some f → throw_want ws at ≡ awaits f at
throw_awaits [] f at l e = absurd cc
throw_awaits (a ∷ []) f at l e = absurd (omega (arith, l))
throw_awaits (a ∷ (b ∷ [])) f at l e = or_awaits (first_future (a ∷ (b ∷ []))) f at (throws a b at) e
throw_awaits (a ∷ (b ∷ (c ∷ ws))) f at l e = absurd (omega (arith, l))

-- Where an instruction waits for a future, it wants that one's word.
pub op_awaits : (op : Op) (st : List Item) (f at : ℕ) → length (words (operands_of op) st) ≡ operands_of op → awaited op st ≡ Some f → op_want op at st ≡ awaits f at
op_awaits (lit w) st f at l e = absurd cc
op_awaits (local i) st f at l e = absurd cc
op_awaits (box_get i) st f at l e = absurd cc
op_awaits (global_get g) st f at l e = absurd cc
op_awaits (box_set i) st f at l e = absurd cc
op_awaits (global_set g) st f at l e = absurd cc
op_awaits (branch k) st f at l e = one_awaits st f at (λ w. branches) e
op_awaits (jump k) st f at l e = absurd cc
op_awaits drop st f at l e = absurd cc
op_awaits (slide n) st f at l e = absurd cc
op_awaits (bind n mask) st f at l e = absurd cc
op_awaits (call k n mask) st f at l e = absurd cc
op_awaits return st f at l e = reply_awaits (top_mark st) st f at e
op_awaits (close n mask is k) st f at l e = absurd cc
op_awaits (funcall n) st f at l e = or_awaits _ f at (funcall_want (in_cleanup (cleanups_on st)) true (words (suc n) st) at) e
op_awaits (funcall_drop n) st f at l e = or_awaits _ f at (funcall_want (in_cleanup (cleanups_on st)) false (words (suc n) st) at) e
op_awaits (touch n) st f at l e = or_awaits (first_future (words n st)) f at rests e
op_awaits (qlet starts t b) st f at l e = one_awaits st f at chooses e
op_awaits join st f at l e = one_awaits st f at (λ w. ends (with_word w)) e
op_awaits (qlambda n mask is k) st f at l e = one_awaits st f at makes e
op_awaits (catch k) st f at l e = one_awaits st f at (λ w. opens w false) e
op_awaits (qcatch k) st f at l e = one_awaits st f at (λ w. opens w true) e
op_awaits exit st f at l e = absurd cc
op_awaits throw st f at l e = throw_awaits (words 2 st) f at l e
op_awaits (protect k) st f at l e = absurd cc
op_awaits leave st f at l e = absurd cc
op_awaits end_clean st f at l e = absurd cc
op_awaits (prim s) st f at l e = or_awaits _ f at (compute_want (operator_of s) (words (operand_count (operator_of s)) st) at) e
op_awaits cons st f at l e = absurd cc
op_awaits print st f at l e = one_awaits st f at prints e
op_awaits end st f at l e = absurd cc

-- And the word takes the place of that future.
pub op_replaced : (code : List Instruction) (op : Op) (v : Word) (pc : ℕ) (st : List Item) (f : ℕ) → awaited op st ≡ Some f
    → op_go code op (got v) pc st ≡ settled code pc (push (with_value v (words (awaited_among op) st)) (without_first (awaited_among op) st))
op_replaced code (lit w) v pc st f e = absurd cc
op_replaced code (local i) v pc st f e = absurd cc
op_replaced code (box_get i) v pc st f e = absurd cc
op_replaced code (global_get g) v pc st f e = absurd cc
op_replaced code (box_set i) v pc st f e = absurd cc
op_replaced code (global_set g) v pc st f e = absurd cc
op_replaced code (branch k) v pc st f e = one_replaced code v pc st f (branch_go code (words 1 st) k pc) e
op_replaced code (jump k) v pc st f e = absurd cc
op_replaced code drop v pc st f e = absurd cc
op_replaced code (slide n) v pc st f e = absurd cc
op_replaced code (bind n mask) v pc st f e = absurd cc
op_replaced code (call k n mask) v pc st f e = absurd cc
op_replaced code return v pc st f e = reply_replaced code v pc (top_mark st) st f e
op_replaced code (close n mask is k) v pc st f e = absurd cc
op_replaced code (funcall n) v pc st f e = touch_replaced code v pc _ f (words (suc n) st) (without_first (suc n) st) _ e
op_replaced code (funcall_drop n) v pc st f e = touch_replaced code v pc _ f (words (suc n) st) (without_first (suc n) st) _ e
op_replaced code (touch n) v pc st f e = touch_replaced code v pc _ f (words n st) (without_first n st) _ e
op_replaced code (qlet starts t b) v pc st f e = one_replaced code v pc st f (mode_go code t b (got v) pc) e
op_replaced code join v pc st f e = one_replaced code v pc st f (λ r. ended pc) e
op_replaced code (qlambda n mask is k) v pc st f e = one_replaced code v pc st f (word_go code k (got v) pc) e
op_replaced code (catch k) v pc st f e = one_replaced code v pc st f (catch_go code k (got v) pc) e
op_replaced code (qcatch k) v pc st f e = one_replaced code v pc st f (catch_go code k (got v) pc) e
op_replaced code exit v pc st f e = absurd cc
op_replaced code throw v pc st f e = touch_replaced code v pc _ f (words 2 st) (without_first 2 st) _ e
op_replaced code (protect k) v pc st f e = absurd cc
op_replaced code leave v pc st f e = absurd cc
op_replaced code end_clean v pc st f e = absurd cc
op_replaced code (prim s) v pc st f e = touch_replaced code v pc _ f (words (operand_count (operator_of s)) st) (without_first (operand_count (operator_of s)) st) _ e
op_replaced code cons v pc st f e = absurd cc
op_replaced code print v pc st f e = one_replaced code v pc st f (λ r. settled code (pc + 1) st) e
op_replaced code end v pc st f e = absurd cc

-- An instruction that touches one word, which is no future.

calm_word : (w : Word) (at : ℕ) (want : Want) → first_future (w ∷ []) ≡ None → await_word w at want ≡ want
calm_word (integer z) at want e = refl
calm_word (symbol n) at want e = refl
calm_word (pair n) at want e = refl
calm_word (closure n) at want e = refl
calm_word (process_closure n) at want e = refl
calm_word (future f) at want e = absurd cc

pub calm_want : (st : List Item) (w : Word) (at : ℕ) (want : Word → Want) → words 1 st ≡ w ∷ [] → first_future (words 1 st) ≡ None → one_want (words 1 st) at want ≡ want w
calm_want st w at want e n = ap (λ ws. one_want ws at want) e ∙ calm_word w at (want w) (ap first_future (sym e) ∙ n)

calm_go_word : (code : List Instruction) (w : Word) (a : Answer Entry) (pc : ℕ) (st : List Item) (next : Point) → first_future (w ∷ []) ≡ None → one_go code (w ∷ []) a pc st next ≡ next
calm_go_word code (integer z) a pc st next e = refl
calm_go_word code (symbol n) a pc st next e = refl
calm_go_word code (pair n) a pc st next e = refl
calm_go_word code (closure n) a pc st next e = refl
calm_go_word code (process_closure n) a pc st next e = refl
calm_go_word code (future f) a pc st next e = absurd cc

pub calm_go : (code : List Instruction) (a : Answer Entry) (pc : ℕ) (st : List Item) (w : Word) (next : List Item → Point) → words 1 st ≡ w ∷ [] → first_future (words 1 st) ≡ None
    → unary_go code a pc st next ≡ next (without_first 1 st)
calm_go code a pc st w next e n = ap (λ ws. one_go code ws a pc (without_first 1 st) (next (without_first 1 st))) e ∙ calm_go_word code w a pc (without_first 1 st) (next (without_first 1 st)) (ap first_future (sym e) ∙ n)
