-- Compiled code is strict, program by program.
use Rattle.std.proofs.Common.{◌≡◌, ℕ, ◌+◌, ◌≤◌, true, List, [], ◌∷◌, Option, Some, None, refl, sym, ap, ◌∙◌, subst, arith}
use Rattle.std.specs.Prelude.{option_map, slice_get}
use Rattle.ql_expand.specs.Core.{Cores, no_cores, and_core, Function, function, Program}
use Rattle.ql_meaning.specs.Context.{Context, offset_of, stored_among, context_of, functions_of, tops_of}
use Rattle.ql_code.specs.Code.{Code}
use Rattle.ql_code.specs.declared.code.Op.TheVariants.{Drop as drop, End as end}
use Rattle.ql_compile.specs.Compile.{Places, with_variables, size, size_of_tops, size_of_function, places_from, places_of, compiled}
use Rattle.ql_code.specs.Sound.{Shape, Start, main, child, slots_in, first_place, is_same_kind, starts_at, joins_there, Table, IsStrict, IsValid}
use Rattle.ql_compile.proofs.Along.{Along, front, back, both, at_place}
use Rattle.ql_compile.proofs.Noted.{with_value, Note, noted, noted_tops, noted_function, noted_functions}
use Rattle.ql_compile.proofs.Follows.{only_is, Stands, len}
use Rattle.ql_compile.proofs.Strict.{Region, IsStrictAt, region_value, strict_here, strict_after, strict, strict_body, positive}
use Rattle.ql_compile.proofs.CompiledIsSound.{FineTops, FineFunction, FineFunctions, FineProgram, main_only, notes, of_note, table_of, same_notes, get_map, stand, tops_long, function_long, main_begins, all_enter, kept_at}

region_main : (k : Code) → Region k main_only [] 0
region_main k = record {
  slots = λ s sh e. let m = only_is main [] s sh e in subst (λ z. slots_in z ≡ []) (sym m.1) refl;
  below = λ s sh e. let m = only_is main [] s sh e in subst (λ z. first_place z ≤ 0) (sym m.0) (omega arith);
  alone = λ s t sh other e i a b. let m = only_is main [] s sh e in let n = only_is main [] t other i in subst (λ z. is_same_kind z t ≡ true) (sym m.0) (subst (λ z. is_same_kind main z ≡ true) (sym n.0) refl);
  joins = λ pc own sh e a. let m = only_is main [] (child pc own) sh e in absurd cc;
}

module _ (k : Code) (t : Table) (x : Context) (places : Places) where
  abbrev S : ℕ → Note → Type 0
  S = Stands k t x places

  abbrev P : ℕ → Note → Type 0
  P = IsStrictAt k

  strict_tops : (pc : ℕ) (cs : Cores) → FineTops k x places cs → Along S pc (noted_tops x places main_only pc cs) → Along P pc (noted_tops x places main_only pc cs)
  strict_tops pc no_cores f a = tt
  strict_tops pc (and_core c cs) f a =
      let n = noted x places main_only [] pc c in
      let r = region_main k in
      let z = positive c in
      both P pc n _ (size c) (len k t x places main_only [] pc c) (strict k t x places 0 main_only [] pc c f.0 r (omega arith) (front S pc n _ a)) (
        strict_after k (with_value main_only) (None ∷ []) 0 (pc + size c) (offset_of c) drop (region_value k main_only [] 0 r) (omega (arith, z)),
        strict_tops (pc + size c + 1) cs f.1 (back S pc n _ (size c) (len k t x places main_only [] pc c) a).1,
      )

  strict_function : (pc : ℕ) (f : Function) → FineFunction k x places f → Along S pc (noted_function x places pc f) → Along P pc (noted_function x places pc f)
  strict_function pc (function at l o ps c) f a = strict_body k t x places pc at (with_variables ps (stored_among x ps) []) c f.1 a

  strict_functions : (pc : ℕ) (fs : List Function) → FineFunctions k x places fs → Along S pc (noted_functions x places (places_from pc fs)) → Along P pc (noted_functions x places (places_from pc fs))
  strict_functions pc [] f a = tt
  strict_functions pc (g ∷ fs) f a =
      let n = noted_function x places pc g in
      both P pc n _ (size_of_function g) (function_long k t x places pc g) (strict_function pc g f.0 (front S pc n _ a))
      (strict_functions (pc + size_of_function g) fs f.1 (back S pc n _ (size_of_function g) (function_long k t x places pc g) a))

module _ (p : Program) (f : FineProgram p) where
  abbrev k : Code
  k = compiled p

  all_strict : Along (IsStrictAt k) 0 (notes p)
  all_strict =
      let t = table_of p in let x = context_of p in let ps = places_of p in
      let n = noted_tops x ps main_only 0 (tops_of p) in
      let l = tops_long p main_only 0 (tops_of p) in
      let r = back (Stands k t x ps) 0 n _ (size_of_tops (tops_of p)) l (stand p) in
      let z : 0 + size_of_tops (tops_of p) + 1 ≡ size_of_tops (tops_of p) + 1 = omega arith in
      both (IsStrictAt k) 0 n _ (size_of_tops (tops_of p)) l (strict_tops k t x ps 0 (tops_of p) f.tops (front (Stands k t x ps) 0 n _ (stand p))) (
        strict_here k main_only [] 0 (0 + size_of_tops (tops_of p)) 0 end (region_main k) (omega arith) (λ e. refl),
        subst (λ m. Along (IsStrictAt k) m (noted_functions x ps ps)) (sym z)
            (strict_functions k t x ps (size_of_tops (tops_of p) + 1) (functions_of p) f.functions (subst (λ m. Along (Stands k t x ps) m (noted_functions x ps ps)) z r.1)),
      )

  strict_at : (pc : ℕ) (n : Note) → slice_get (notes p) pc ≡ Some n → IsStrictAt k pc n
  strict_at pc n e = let z : 0 + pc ≡ pc = omega arith in subst (λ q. IsStrictAt k q n) z (at_place (IsStrictAt k) (notes p) 0 pc n all_strict e)

  slots_same : (s r : Start) (pc : ℕ) (sh other : Shape) (o : Option Note) → slice_get (notes p) pc ≡ o → of_note o s ≡ Some sh → of_note o r ≡ Some other → slots_in sh ≡ slots_in other
  slots_same s r pc sh other None e h i = absurd cc
  slots_same s r pc sh other (Some n) e h i = (strict_at pc n e).slots s r sh other h i

  kinds_same : (s r : Start) (pc : ℕ) (sh other : Shape) (o : Option Note) → slice_get (notes p) pc ≡ o → of_note o s ≡ Some sh → of_note o r ≡ Some other → first_place s ≡ pc → first_place r ≡ pc → is_same_kind s r ≡ true
  kinds_same s r pc sh other None e h i a b = absurd cc
  kinds_same s r pc sh other (Some n) e h i a b = (strict_at pc n e).apart s r sh other h i a b

  head_starts : (s : Start) (sh : Shape) (o : Option Note) → slice_get (notes p) (first_place s) ≡ o → of_note o s ≡ Some sh → starts_at (slice_get k.instructions (first_place s)) ≡ true
  head_starts s sh None e h = absurd cc
  head_starts s sh (Some n) e h =
      let i : slice_get k.instructions (first_place s) ≡ Some n.0 = ap (λ is. slice_get is (first_place s)) (sym (same_notes p)) ∙ (get_map (notes p) (first_place s) ∙ ap (option_map (λ (n : Note). n.0)) e) in
      subst (λ o. starts_at o ≡ true) (sym i) ((strict_at (first_place s) n e).heads s sh h refl)

  own_joins : (pc own : ℕ) (sh : Shape) (o : Option Note) → slice_get (notes p) pc ≡ o → of_note o (child pc own) ≡ Some sh → joins_there (slice_get k.instructions own) ≡ true
  own_joins pc own sh None e h = absurd cc
  own_joins pc own sh (Some n) e h = (strict_at pc n e).joins pc own sh h refl

  pub compiled_is_strict : IsStrict k (table_of p)
  compiled_is_strict = record {
    slots = λ s r pc sh other h i. slots_same s r pc sh other (slice_get (notes p) pc) refl h i;
    apart = λ s r sh other h i e.
        kinds_same s r (first_place s) sh other (slice_get (notes p) (first_place s)) refl h (subst (λ z. of_note (slice_get (notes p) z) r ≡ Some other) (sym e) i) refl (sym e);
    heads = λ s sh h. head_starts s sh (slice_get (notes p) (first_place s)) refl h;
    joins = λ pc own sh h. own_joins pc own sh (slice_get (notes p) pc) refl h;
  }

  pub compiled_is_valid : IsValid (compiled p)
  compiled_is_valid = record {
    sound = record {
      table = table_of p;
      begins = main_begins p f;
      enters = all_enter p f;
      kept = λ s pc sh h. kept_at p f s pc sh (slice_get (notes p) pc) refl h;
      quoted = f.quoted;
    };
    strict = compiled_is_strict;
  }
