-- Compiled code is sound.
use Rattle.std.proofs.Common.{◌≡◌, ℕ, zero, suc, ◌+◌, ◌≤◌, true, List, [], ◌∷◌, ◌++◌, length, map, Option, Some, None, refl, sym, ap, ◌∙◌, subst, arith, length-append}
use Rattle.std.specs.Prelude.{option_map, slice_get}
use Rattle.std.proofs.lemmas.List.{length-map, map-append}
use Rattle.ql_expand.specs.Core.{Cores, no_cores, and_core, Function, function, Program}
use Rattle.ql_meaning.specs.Context.{Context, offset_of, stored_among, parameters_of, context_of, functions_of, tops_of, quotes_of}
use Rattle.ql_code.specs.Code.{instruction, mask_of, Code}
use Rattle.ql_code.specs.declared.code.Op.TheVariants.{Drop as drop, Return as return, End as end}
use Rattle.ql_compile.specs.Compile.{Places, with_variables, size, size_of_tops, size_of_function, places_from, places_of, entry_of, compiled}
use Rattle.ql_code.specs.Sound.{value, Shape, Start, main, body, over, variables, is_mask, slots_in, after, Leads, Table, Has, are_constant, Enters, Sound}
use Rattle.ql_compile.proofs.Along.{Along, front, back, both, at_place, along, has_all}
use Rattle.ql_compile.proofs.Noted.{Here, with_value, only, Note, note, ops_of, noted, noted_tops, noted_function, noted_functions, function_shape, same_tops, same_functions}
use Rattle.ql_compile.proofs.SlotKinds.{kinds_slots, kinds_bound, mask_fits, variables_are}
use Rattle.ql_compile.proofs.Fine.{Fine}
use Rattle.ql_compile.proofs.Follows as follows
use Rattle.ql_compile.proofs.Follows.{Comes, only_is, only_itself, comes_only, Stands, IsKept, here, moved, len, enters, kept, kept_on, return_kept}

module _ (k : Code) (x : Context) (places : Places) where
  abbrev pub FineTops : Cores → Type 0
  FineTops no_cores = Unit {0}
  FineTops (and_core c cs) = Fine k x places [] c × FineTops cs

  abbrev pub FineFunction : Function → Type 0
  FineFunction (function at l o ps c) = (length ps ≤ 16) × Fine k x places (with_variables ps (stored_among x ps) []) c

  abbrev pub FineFunctions : List Function → Type 0
  FineFunctions [] = Unit {0}
  FineFunctions (f ∷ fs) = FineFunction f × FineFunctions fs

abbrev pub main_only : Here
main_only = only main []

comes_main : (lo hi : ℕ) → Comes main_only [] lo hi
comes_main lo hi = record {
  slots = λ s r i. let k = only_is main [] s r i in subst (λ z. slots_in z ≡ []) (sym k.1) refl;
  bounds = λ s r i. let k = only_is main [] s r i in subst (follows.InBounds lo hi) (sym k.0) tt;
}

module _ (k : Code) (t : Table) (x : Context) (places : Places) where
  abbrev S : ℕ → Note → Type 0
  S = Stands k t x places

  abbrev K : ℕ → Note → Type 0
  K = IsKept k t x places

  enters_tops : (h : Here) (pc : ℕ) (cs : Cores) → Along S pc (noted_tops x places h pc cs) → follows.Enters k t x places h (pc + size_of_tops cs) → follows.Enters k t x places h pc
  enters_tops h pc no_cores a out = moved k t x places h (pc + 0) pc (omega arith) out
  enters_tops h pc (and_core c cs) a out = enters k t x places h [] pc c (front S pc (noted x places h [] pc c) _ a)

  kept_tops : (pc : ℕ) (cs : Cores) → FineTops k x places cs → Along S pc (noted_tops x places main_only pc cs) → follows.Enters k t x places main_only (pc + size_of_tops cs) → Along K pc (noted_tops x places main_only pc cs)
  kept_tops pc no_cores f a out = tt
  kept_tops pc (and_core c cs) f a out =
      let n = noted x places main_only [] pc c in
      let r = back S pc n _ (size c) (len k t x places main_only [] pc c) a in
      let q = pc + size c in
      let out' = moved k t x places main_only (pc + (size c + 1 + size_of_tops cs)) (q + 1 + size_of_tops cs) (omega arith) out in
      both K pc n _ (size c) (len k t x places main_only [] pc c)
      (kept k t x places pc q main_only [] pc c f.0 (comes_main pc q) (omega arith, omega arith) (front S pc n _ a) (here k t x places q (instruction drop (offset_of c)) (with_value main_only) r.0)) (
        kept_on k t x places (λ sh. value ∷ sh) main_only drop (offset_of c) q (λ s sh e. (enters_tops main_only (q + 1) cs r.1 out' s sh e, tt)),
        kept_tops (q + 1) cs f.1 r.1 out',
      )

  kept_function : (pc : ℕ) (f : Function) → FineFunction k x places f → Along S pc (noted_function x places pc f) → Along K pc (noted_function x places pc f)
  kept_function pc (function at l o ps c) f a =
      let sc = with_variables ps (stored_among x ps) [] in
      let h = only (body pc) (function_shape x places ps) in
      let n = noted x places h sc pc c in
      let r = back S pc n _ (size c) (len k t x places h sc pc c) a in
      let q = pc + size c in
      both K pc n _ (size c) (len k t x places h sc pc c)
      (kept k t x places pc q h sc pc c f.1 (comes_only pc (function_shape x places ps) sc pc q refl) (omega arith, omega arith) (front S pc n _ a) (here k t x places q (instruction return at) (with_value h) r.0))
      (return_kept k t x places q at pc (function_shape x places ps) (kinds_slots sc), tt)

  pub function_long : (pc : ℕ) (f : Function) → length (noted_function x places pc f) ≡ size_of_function f
  function_long pc (function at l o ps c) =
      let h = only (body pc) (function_shape x places ps) in
      let e = len k t x places h (with_variables ps (stored_among x ps) []) pc c in
      omega (arith, length-append {A = Note}, e)

  kept_functions : (pc : ℕ) (fs : List Function) → FineFunctions k x places fs → Along S pc (noted_functions x places (places_from pc fs)) → Along K pc (noted_functions x places (places_from pc fs))
  kept_functions pc [] f a = tt
  kept_functions pc (g ∷ fs) f a =
      let n = noted_function x places pc g in
      both K pc n _ (size_of_function g) (function_long pc g)
      (kept_function pc g f.0 (front S pc n _ a))
      (kept_functions (pc + size_of_function g) fs f.1 (back S pc n _ (size_of_function g) (function_long pc g) a))

  enters_function : (pc : ℕ) (f : Function) → FineFunction k x places f → Along S pc (noted_function x places pc f)
      → (is_mask (length (parameters_of f)) (mask_of (stored_among x (parameters_of f))) ≡ true) × Has t (body pc) pc (over (variables (length (parameters_of f)) (mask_of (stored_among x (parameters_of f)))) [])
  enters_function pc (function at l o ps c) f a =
      let sc = with_variables ps (stored_among x ps) [] in
      let h = only (body pc) (function_shape x places ps) in
      let e : length ps ≡ length (stored_among x ps) = sym (length-map ps _) in
      let u = enters k t x places h sc pc c (front S pc (noted x places h sc pc c) _ a) (body pc) (function_shape x places ps) (only_itself (body pc) (function_shape x places ps)) in
      (mask_fits (length ps) (stored_among x ps) e f.0, rw (variables_are (length ps) (stored_among x ps) e) (subst (Has t (body pc) pc) (kinds_bound ps (stored_among x ps) [] e) u))

  enters_functions : (pc : ℕ) (fs : List Function) → FineFunctions k x places fs → Along S pc (noted_functions x places (places_from pc fs)) → Enters t (map (entry_of x) (places_from pc fs))
  enters_functions pc [] f a = tt
  enters_functions pc (g ∷ fs) f a =
      let n = noted_function x places pc g in
      let e = enters_function pc g f.0 (front S pc n _ a) in
      (e.0, e.1, enters_functions (pc + size_of_function g) fs f.1 (back S pc n _ (size_of_function g) (function_long pc g) a))

-- what is known of all of a program
pub record FineProgram (p : Program) : Type 0 where
  pub tops : FineTops (compiled p) (context_of p) (places_of p) (tops_of p)
  pub functions : FineFunctions (compiled p) (context_of p) (places_of p) (functions_of p)
  pub quoted : are_constant 0 (quotes_of p).0 ≡ true

abbrev pub notes : Program → List Note
notes p = noted_tops (context_of p) (places_of p) main_only 0 (tops_of p) ++ note end 0 main_only ∷ noted_functions (context_of p) (places_of p) (places_of p)

abbrev pub of_note : Option Note → Start → Option Shape
of_note None s = None
of_note (Some n) s = n.1 s

abbrev pub table_of : Program → Table
table_of p s pc = of_note (slice_get (notes p) pc) s

pub same_notes : (p : Program) → ops_of (notes p) ≡ (compiled p).instructions
same_notes p = simp (map-append, same_tops (context_of p) (places_of p) main_only 0 (tops_of p), same_functions (context_of p) (places_of p) (places_of p))

pub get_map : (xs : List Note) (i : ℕ) → slice_get (ops_of xs) i ≡ option_map (λ (n : Note). n.0) (slice_get xs i)
get_map [] i = refl
get_map (x ∷ xs) zero = refl
get_map (x ∷ xs) (suc i) = get_map xs i

module _ (p : Program) where
  pub stand : Along (Stands (compiled p) (table_of p) (context_of p) (places_of p)) 0 (notes p)
  stand = along (λ pc n. slice_get (notes p) pc ≡ Some n) (Stands (compiled p) (table_of p) (context_of p) (places_of p))
      (λ pc n e. (ap (λ is. slice_get is pc) (sym (same_notes p)) ∙ (get_map (notes p) pc ∙ ap (option_map (λ (n : Note). n.0)) e), λ s. ap (λ o. of_note o s) e)) 0 (notes p) (has_all (notes p) [])

  pub tops_long : (h : Here) (pc : ℕ) (cs : Cores) → length (noted_tops (context_of p) (places_of p) h pc cs) ≡ size_of_tops cs
  tops_long h pc no_cores = refl
  tops_long h pc (and_core c cs) =
      let e = len (compiled p) (table_of p) (context_of p) (places_of p) h [] pc c in let i = tops_long h (pc + size c + 1) cs in omega (arith, length-append {A = Note}, e, i)

  end_kept : (pc : ℕ) → IsKept (compiled p) (table_of p) (context_of p) (places_of p) pc (note end 0 main_only)
  end_kept pc s sh e =
      let d = only_is main [] s sh e in
      subst (λ z. Leads (Has (table_of p)) (after (compiled p) z pc sh (Some (instruction end 0)))) (sym d.0)
      (subst (λ z. Leads (Has (table_of p)) (after (compiled p) main pc z (Some (instruction end 0)))) (sym d.1) tt)

  module _ (f : FineProgram p) where
    all_kept : Along (IsKept (compiled p) (table_of p) (context_of p) (places_of p)) 0 (notes p)
    all_kept =
        let k = compiled p in let t = table_of p in let x = context_of p in let ps = places_of p in
        let n = noted_tops x ps main_only 0 (tops_of p) in
        let l = tops_long main_only 0 (tops_of p) in
        let r = back (Stands k t x ps) 0 n _ (size_of_tops (tops_of p)) l stand in
        let z : 0 + size_of_tops (tops_of p) + 1 ≡ size_of_tops (tops_of p) + 1 = omega arith in
        both (IsKept k t x ps) 0 n _ (size_of_tops (tops_of p)) l
        (kept_tops k t x ps 0 (tops_of p) f.tops (front (Stands k t x ps) 0 n _ stand) (here k t x ps (0 + size_of_tops (tops_of p)) (instruction end 0) main_only r.0)) (
          end_kept (0 + size_of_tops (tops_of p)),
          subst (λ m. Along (IsKept k t x ps) m (noted_functions x ps ps)) (sym z)
              (kept_functions k t x ps (size_of_tops (tops_of p) + 1) (functions_of p) f.functions (subst (λ m. Along (Stands k t x ps) m (noted_functions x ps ps)) z r.1)),
        )

    pub all_enter : Enters (table_of p) (compiled p).entries
    all_enter =
        let k = compiled p in let t = table_of p in let x = context_of p in let ps = places_of p in
        let n = noted_tops x ps main_only 0 (tops_of p) in
        let r = back (Stands k t x ps) 0 n _ (size_of_tops (tops_of p)) (tops_long main_only 0 (tops_of p)) stand in
        let z : 0 + size_of_tops (tops_of p) + 1 ≡ size_of_tops (tops_of p) + 1 = omega arith in
        enters_functions k t x ps (size_of_tops (tops_of p) + 1) (functions_of p) f.functions (subst (λ m. Along (Stands k t x ps) m (noted_functions x ps ps)) z r.1)

    pub main_begins : Has (table_of p) main 0 []
    main_begins =
        let k = compiled p in let t = table_of p in let x = context_of p in let ps = places_of p in
        let n = noted_tops x ps main_only 0 (tops_of p) in
        let r = back (Stands k t x ps) 0 n _ (size_of_tops (tops_of p)) (tops_long main_only 0 (tops_of p)) stand in
        enters_tops k t x ps main_only 0 (tops_of p) (front (Stands k t x ps) 0 n _ stand) (here k t x ps (0 + size_of_tops (tops_of p)) (instruction end 0) main_only r.0) main [] refl

    pub kept_at : (s : Start) (pc : ℕ) (sh : Shape) → (o : Option Note) → slice_get (notes p) pc ≡ o → of_note o s ≡ Some sh → Leads (Has (table_of p)) (after (compiled p) s pc sh (slice_get (compiled p).instructions pc))
    kept_at s pc sh None e h = absurd cc
    kept_at s pc sh (Some n) e h =
        let i : slice_get (compiled p).instructions pc ≡ Some n.0 = ap (λ is. slice_get is pc) (sym (same_notes p)) ∙ (get_map (notes p) pc ∙ ap (option_map (λ (n : Note). n.0)) e) in
        let z : 0 + pc ≡ pc = omega arith in
        let a = subst (λ q. IsKept (compiled p) (table_of p) (context_of p) (places_of p) q n) z (at_place (IsKept (compiled p) (table_of p) (context_of p) (places_of p)) (notes p) 0 pc n all_kept e) in
        subst (λ o. Leads (Has (table_of p)) (after (compiled p) s pc sh o)) (sym i) (a s sh h)

    pub compiled_is_sound : Sound (compiled p)
    compiled_is_sound = record {
      table = table_of p;
      begins = main_begins;
      enters = all_enter;
      kept = λ s pc sh h. kept_at s pc sh (slice_get (notes p) pc) refl h;
      quoted = f.quoted;
    }
