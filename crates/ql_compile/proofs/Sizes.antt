-- How long code is, and what stands where.
use Rattle.std.proofs.Common.{◌≡◌, ℕ, zero, suc, ◌+◌, true, false, List, [], ◌∷◌, ◌++◌, length, Some, None, refl, ap, subst, arith, length-append}
use Rattle.std.specs.Prelude.{slice_get}
use Rattle.ql_expand.specs.Core as core
use Rattle.ql_expand.specs.Core.{Core, Node, constant, variable, setq, conditional, progn, binding, primitive, lambda, defvar, Cores, no_cores, and_core, Bounds, no_bounds, and_bound}
use Rattle.ql_scope.specs.Scope.{binders_in}
use Rattle.ql_meaning.specs.Context.{Context, offset_of, stored_among}
use Rattle.ql_meaning.specs.Control.{values_in}
use Rattle.ql_code.specs.Code.{Instruction, instruction}
use Rattle.ql_code.specs.declared.code.Op.TheVariants.{Join as join}
use Rattle.ql_compile.specs.Compile.{Scope, Places, size, size_of_node, size_of_cores, size_of_forms, size_of_values, size_of_joined, code, code_of_node, code_of_cores, code_of_forms, code_of_values, code_of_joined, body_scope, with_variables}

abbrev Code : Type 0
Code = List Instruction

-- values with their joins, as cores
module _ (x : Context) (places : Places) where
  abbrev pub joined : Scope → ℕ → Cores → List Instruction
  joined sc pc no_cores = []
  joined sc pc (and_core c cs) = code x places sc pc c ++ instruction join (offset_of c) ∷ joined (None ∷ sc) (pc + size c + 1) cs

abbrev pub joined_size : Cores → ℕ
joined_size no_cores = 0
joined_size (and_core c cs) = size c + 1 + joined_size cs

module _ (x : Context) (places : Places) where
  mutual
    pub long : (sc : Scope) (pc : ℕ) (c : Core) → length (code x places sc pc c) ≡ size c
    long sc pc (core.core at n) = long_node sc pc at n

    long_node : (sc : Scope) (pc at : ℕ) (n : Node) → length (code_of_node x places sc pc at n) ≡ size_of_node n
    long_node sc pc at (constant f) = refl
    long_node sc pc at (variable y) = refl
    long_node sc pc at (setq y o c) = let i = long sc pc c in omega (arith, length-append {A = Instruction}, i)
    long_node sc pc at (conditional a b c) =
        let i = long sc pc a in let j = long sc (pc + size a + 1) b in let k = long sc (pc + size a + 1 + size b + 1) c in omega (arith, length-append {A = Instruction}, i, j, k)
    long_node sc pc at (progn cs) = long_forms sc pc at cs
    long_node sc pc at (binding bs c) =
        let i = long_values sc pc bs in let j = long (with_variables (binders_in bs) (stored_among x (binders_in bs)) sc) (pc + size_of_values bs + 1) c in omega (arith, length-append {A = Instruction}, i, j)
    long_node sc pc at (primitive o cs) = let i = long_cores sc pc cs in omega (arith, length-append {A = Instruction}, i)
    long_node sc pc at (core.print c) = let i = long sc pc c in omega (arith, length-append {A = Instruction}, i)
    long_node sc pc at (core.call f o cs) = let i = long_cores sc pc cs in omega (arith, length-append {A = Instruction}, i)
    long_node sc pc at (core.funcall true c cs) = let i = long sc pc c in let j = long_cores (None ∷ sc) (pc + size c) cs in omega (arith, length-append {A = Instruction}, i, j)
    long_node sc pc at (core.funcall false c cs) = let i = long sc pc c in let j = long_cores (None ∷ sc) (pc + size c) cs in omega (arith, length-append {A = Instruction}, i, j)
    long_node sc pc at (lambda ps c) = let i = long (body_scope x sc ps c) (pc + 1) c in omega (arith, length-append {A = Instruction}, i)
    long_node sc pc at (core.qlet p bs c) =
        let i = long sc pc p in let j = long_joined sc (pc + size p + 1) bs in
        let k = long (with_variables (binders_in bs) (stored_among x (binders_in bs)) sc) (pc + size p + 1 + size_of_joined bs + 1 + 2) c in
        omega (arith, length-append {A = Instruction}, i, j, k)
    long_node sc pc at (core.qlambda p ps c) =
        let i = long sc pc p in let j = long (body_scope x sc ps c) (pc + size p + 1) c in omega (arith, length-append {A = Instruction}, i, j)
    long_node sc pc at (core.catch a b) = let i = long sc pc a in let j = long sc (pc + size a + 1) b in omega (arith, length-append {A = Instruction}, i, j)
    long_node sc pc at (core.qcatch a b) = let i = long sc pc a in let j = long sc (pc + size a + 1) b in omega (arith, length-append {A = Instruction}, i, j)
    long_node sc pc at (core.throw a b) = let i = long sc pc a in let j = long (None ∷ sc) (pc + size a) b in omega (arith, length-append {A = Instruction}, i, j)
    long_node sc pc at (core.protect a b) = let i = long sc (pc + 1) a in let j = long (None ∷ sc) (pc + 1 + size a + 1) b in omega (arith, length-append {A = Instruction}, i, j)
    long_node sc pc at (defvar w o c) = let i = long sc pc c in omega (arith, length-append {A = Instruction}, i)

    pub long_cores : (sc : Scope) (pc : ℕ) (cs : Cores) → length (code_of_cores x places sc pc cs) ≡ size_of_cores cs
    long_cores sc pc no_cores = refl
    long_cores sc pc (and_core c cs) = let i = long sc pc c in let j = long_cores (None ∷ sc) (pc + size c) cs in omega (arith, length-append {A = Instruction}, i, j)

    pub long_values : (sc : Scope) (pc : ℕ) (bs : Bounds) → length (code_of_values x places sc pc bs) ≡ size_of_values bs
    long_values sc pc no_bounds = refl
    long_values sc pc (and_bound b c bs) = let i = long sc pc c in let j = long_values (None ∷ sc) (pc + size c) bs in omega (arith, length-append {A = Instruction}, i, j)

    pub long_joined : (sc : Scope) (pc : ℕ) (bs : Bounds) → length (code_of_joined x places sc pc bs) ≡ size_of_joined bs
    long_joined sc pc no_bounds = refl
    long_joined sc pc (and_bound b c bs) = let i = long sc pc c in let j = long_joined (None ∷ sc) (pc + size c + 1) bs in omega (arith, length-append {A = Instruction}, i, j)

    pub long_forms : (sc : Scope) (pc at : ℕ) (cs : Cores) → length (code_of_forms x places sc pc at cs) ≡ size_of_forms cs
    long_forms sc pc at no_cores = refl
    long_forms sc pc at (and_core c no_cores) = long sc pc c
    long_forms sc pc at (and_core c (and_core d ds)) = let i = long sc pc c in let j = long_forms sc (pc + size c + 1) at (and_core d ds) in omega (arith, length-append {A = Instruction}, i, j)

  -- the values of bindings as cores
  pub code_values : (sc : Scope) (pc : ℕ) (bs : Bounds) → code_of_values x places sc pc bs ≡ code_of_cores x places sc pc (values_in bs)
  code_values sc pc no_bounds = refl
  code_values sc pc (and_bound b c bs) = rw (code_values (None ∷ sc) (pc + size c) bs)

  pub code_joined : (sc : Scope) (pc : ℕ) (bs : Bounds) → code_of_joined x places sc pc bs ≡ joined x places sc pc (values_in bs)
  code_joined sc pc no_bounds = refl
  code_joined sc pc (and_bound b c bs) = rw (code_joined (None ∷ sc) (pc + size c + 1) bs)

pub values_size : (bs : Bounds) → size_of_values bs ≡ size_of_cores (values_in bs)
values_size no_bounds = refl
values_size (and_bound b c bs) = rw (values_size bs)

pub joined_sizes : (bs : Bounds) → size_of_joined bs ≡ joined_size (values_in bs)
joined_sizes no_bounds = refl
joined_sizes (and_bound b c bs) = rw (joined_sizes bs)

module _ (ops : List Instruction) where
  -- these instructions stand in the code from this place on
  abbrev pub HasAt : ℕ → List Instruction → Type 0
  HasAt pc [] = Unit {0}
  HasAt pc (i ∷ is) = (slice_get ops pc ≡ Some i) × HasAt (pc + 1) is

  pub front : (pc : ℕ) (a b : List Instruction) → HasAt pc (a ++ b) → HasAt pc a
  front pc [] b h = tt
  front pc (i ∷ a) b h = (h.0, front (pc + 1) a b h.1)

  pub front_one : (pc : ℕ) (a : List Instruction) (i : Instruction) (b : List Instruction) → HasAt pc (a ++ i ∷ b) → HasAt pc (a ++ i ∷ [])
  front_one pc [] i b h = (h.0, tt)
  front_one pc (j ∷ a) i b h = (h.0, front_one (pc + 1) a i b h.1)

  -- the second part stands where the first ends
  pub back : (pc : ℕ) (a b : List Instruction) (n : ℕ) → length a ≡ n → HasAt pc (a ++ b) → HasAt (pc + n) b
  back pc [] b n e h = let k : pc ≡ pc + n = omega (arith, e) in subst (λ m. HasAt m b) k h
  back pc (i ∷ a) b zero e h = absurd (omega (arith, e))
  back pc (i ∷ a) b (suc n) e h = let k : pc + 1 + n ≡ pc + suc n = omega arith in subst (λ m. HasAt m b) k (back (pc + 1) a b n (omega (arith, e)) h.1)

  -- instructions that are those of the code, place by place from here on, stand here
  pub standing : (pc : ℕ) (is : List Instruction) → ((n : ℕ) → slice_get ops (pc + n) ≡ slice_get is n) → HasAt pc is
  standing pc [] same = tt
  standing pc (i ∷ is) same =
      let here : pc + 0 ≡ pc = omega arith in
      (subst (λ k. slice_get ops k ≡ Some i) here (same 0), standing (pc + 1) is later)
    where
      later : (n : ℕ) → slice_get ops (pc + 1 + n) ≡ slice_get is n
      later n = let next : pc + suc n ≡ pc + 1 + n = omega arith in subst (λ k. slice_get ops k ≡ slice_get is n) next (same (suc n))

-- past a first list stands the second
beyond_first : (pre is : List Instruction) (n : ℕ) → slice_get (pre ++ is) (length pre + n) ≡ slice_get is n
beyond_first [] is n = let none : 0 + n ≡ n = omega arith in ap (slice_get is) none
beyond_first (p ∷ pre) is n =
    let further : suc (length pre + n) ≡ length (p ∷ pre) + n = omega arith in
    subst (λ k. slice_get (p ∷ (pre ++ is)) k ≡ slice_get is n) further (beyond_first pre is n)

pub has_all : (is pre : List Instruction) → HasAt (pre ++ is) (length pre) is
has_all is pre = standing (pre ++ is) (length pre) is (beyond_first pre is)
