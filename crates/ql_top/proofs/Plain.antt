-- How the parser walks over plain words.
use Rattle.std.proofs.Common.{◌≡◌, ◌∙◌, ◌||◌, ◌==◌, ◌++◌, ℕ, Bool, List, [], ◌∷◌, Option, Some, None, is_some, true, false, not, refl, ap, find, fold, cond}
use Rattle.std.specs.Prelude.{codes}
use Rattle.std.specs.Str.{bytes_eq}
use Rattle.clap.proofs.SimpleLemmas.{is_false}
use Rattle.clap.specs.Faults.{settle_fault, turn_fault, walk_fault}
use Rattle.clap.specs.Lexer.{long_of, short_of}
use Rattle.clap.specs.Simple.{Shape}
use Rattle.clap.specs.Values.{reading_of}
use Rattle.clap.specs.ValueTests.{accepts}
use Rattle.clap.specs.Walk.{Rule, Row, Held, Walk, walked, settled, settled_rows, arg_by_id, arg_by_long, at_row, has_row, idle, option, used_by_id, with_values, more_values}
use Rattle.clap.specs.Kinds.{or_else}
use Rattle.std.proofs.lemmas.List.{append-nil}
use Rattle.clap.specs.declared.builder.action.ArgAction.TheVariants.{Set}
use Rattle.clap.specs.declared.builder.value_parser.Reading.TheVariants.{AsWritten}
use Rattle.clap.specs.declared.builder.value_parser.ValueParser.{ValueParser}
use Rattle.clap.specs.declared.parser.matches.ValueSource.{ValueSource}
use Rattle.clap.specs.declared.parser.matches.ValueSource.TheVariants.{CommandLine}

-- ---- values

-- a word that is no option
abbrev pub is_value : List ℕ → Bool
is_value [] = false
is_value (x ∷ xs) = not (x == 45)

pub no_long : (v : List ℕ) → is_value v ≡ true → long_of v ≡ None
no_long [] e = refl
no_long (x ∷ xs) e = rw (is_false (x == 45) e) refl

pub no_short : (v : List ℕ) → is_value v ≡ true → short_of v ≡ None
no_short [] e = refl
no_short (x ∷ xs) e = rw (is_false (x == 45) e) refl

pub no_dashes : (v : List ℕ) → is_value v ≡ true → bytes_eq v (45 ∷ 45 ∷ []) ≡ false
no_dashes [] e = refl
no_dashes (x ∷ xs) e = rw (is_false (x == 45) e) refl

-- ---- rows

abbrev pub lookup : List ℕ → List Row → Option Row
lookup name rows = find (λ r. bytes_eq r.id name) rows

abbrev pub row : List ℕ → ValueSource → List ℕ → Row
row name source v = record { id = name; values = v ∷ []; count = None; source = Some source; reading = AsWritten }

more_is : (b : Bool) (has : Bool) (r : Row) (found : Option Row) → has ≡ is_some found → (b || has) ≡ is_some (cond b (Some r) found)
more_is true has r found e = refl
more_is false has r found e = e

pub has_is : (name : List ℕ) (rows : List Row) → has_row name rows ≡ is_some (lookup name rows)
has_is name [] = refl
has_is name (r ∷ rs) = more_is (bytes_eq r.id name) (has_row name rs) r (lookup name rs) (has_is name rs)

none_first : (b : Bool) (r : Row) (found : Option Row) → is_some (cond b (Some r) found) ≡ false → (b ≡ false) × (is_some found ≡ false)
none_first true r found e = absurd cc
none_first false r found e = (refl, e)

pub not_there : (name : List ℕ) (change : Row → List Row) (missing rows : List Row) → is_some (lookup name rows) ≡ false
    → at_row name change missing rows ≡ rows ++ missing
not_there name change missing [] e = refl
not_there name change missing (r ∷ rs) e =
    let first = none_first (bytes_eq r.id name) r (lookup name rs) e in
    rw first.0 (ap (λ xs. r ∷ xs) (not_there name change missing rs first.1))

pub one_more_row : (name : List ℕ) (r : Row) (rows : List Row) → is_some (lookup name rows) ≡ false → bytes_eq r.id name ≡ true
    → lookup name (rows ++ r ∷ []) ≡ Some r
one_more_row name r [] e f = rw f refl
one_more_row name r (x ∷ xs) e f =
    let first = none_first (bytes_eq x.id name) x (lookup name xs) e in
    rw first.0 (one_more_row name r xs first.1 f)

pub is_more : (n : List ℕ) (r : Row) (rows : List Row) → is_some (lookup n (rows ++ r ∷ [])) ≡ (bytes_eq r.id n || is_some (lookup n rows))
is_more n r [] = last (bytes_eq r.id n)
  where
    last : (b : Bool) → is_some (cond b (Some r) None) ≡ (b || false)
    last true = refl
    last false = refl
is_more n r (x ∷ xs) = past (bytes_eq x.id n) (bytes_eq r.id n) (lookup n xs) (lookup n (xs ++ r ∷ [])) (is_more n r xs)
  where
    past : (b c : Bool) (found after : Option Row) → is_some after ≡ (c || is_some found)
        → is_some (cond b (Some x) after) ≡ (c || is_some (cond b (Some x) found))
    past true true found after e = refl
    past true false found after e = refl
    past false c found after e = e

pub other_row : (name : List ℕ) (r : Row) (rows : List Row) → bytes_eq r.id name ≡ false → lookup name (rows ++ r ∷ []) ≡ lookup name rows
other_row name r [] f = rw f refl
other_row name r (x ∷ xs) f = ap (cond (bytes_eq x.id name) (Some x)) (other_row name r xs f)

-- ---- one option

-- an option that takes one value, as the parser has it
abbrev pub option_rule : (name : List ℕ) → ValueParser → (default : List ℕ) → Rule
option_rule name parser default = record {
  id = name;
  long = Some name;
  aliases = [];
  short = None;
  short_aliases = [];
  index = None;
  action = Some Set;
  range = Some (record { start_inclusive = 1; end_inclusive = 1 });
  value_names = 0;
  defaults = default ∷ [];
  missing = [];
  trailing_var_arg = false;
  parser = Some parser;
  ignore_case = false;
  required = false;
  is_simple = true;
  is_free = true;
}

-- the rules have it
pub record HasOption (rules : List Rule) (name : List ℕ) (parser : ValueParser) (default : List ℕ) : Type 0 where
  pub by_long : arg_by_long rules name ≡ Some (option_rule name parser default)
  pub by_id : arg_by_id rules name ≡ Some (option_rule name parser default)
  pub same : bytes_eq name name ≡ true
  pub word : long_of (codes "--" ++ name) ≡ Some (name, None)
  pub more : bytes_eq (codes "--" ++ name) (45 ∷ 45 ∷ []) ≡ false
  pub read : reading_of parser ≡ AsWritten

-- the walk between two words
abbrev pub at : ℕ → Held → Walk
at position h = record { held = h; waiting = idle; position = position; is_trailing = false; stopped = None }

abbrev pub waiting_for : ℕ → List ℕ → Held → Walk
waiting_for position name h = record (at position h) { waiting = option name }

abbrev pub rows_so_far : List Rule → Held → List Row
rows_so_far rules h = settled_rows rules h.pending h.rows

-- the option has come
abbrev pub named : List Rule → List ℕ → Held → Held
named rules name h = record (settled rules h) { pending = Some (name, []) }

-- and its value
abbrev pub valued : List Rule → List ℕ → List ℕ → Held → Held
valued rules name v h = record (settled rules h) { pending = Some (name, v ∷ []) }

module _ (s : Shape) (name : List ℕ) (parser : ValueParser) (default : List ℕ) (o : HasOption s.rules name parser default) where
  name_walked : (position : ℕ) (h : Held) → walked s.rules [] (at position h) (codes "--" ++ name) ≡ waiting_for position name (named s.rules name h)
  unfolding walked
  name_walked position h = rw (o.more, o.word, o.by_long) refl

  value_walked : (position : ℕ) (v : List ℕ) (h : Held) → is_value v ≡ true
      → walked s.rules [] (waiting_for position name (named s.rules name h)) v ≡ at position (valued s.rules name v h)
  unfolding walked
  value_walked position v h e = rw (no_dashes v e, no_long v e, no_short v e, o.by_id, o.same) refl

  name_fault : (position : ℕ) (h : Held) → settle_fault s.rules s.args_override_self h ≡ []
      → turn_fault s [] (at position h) (codes "--" ++ name) ≡ []
  name_fault position h e = rw (o.more, o.word, o.by_long, e) refl

  value_fault : (position : ℕ) (v : List ℕ) (h : Held) → is_value v ≡ true
      → turn_fault s [] (waiting_for position name (named s.rules name h)) v ≡ []
  value_fault position v h e = rw (no_dashes v e, no_long v e, no_short v e) refl

  -- two words
  pub both_walked : (position : ℕ) (v : List ℕ) (words : List (List ℕ)) (h : Held) → is_value v ≡ true
      → fold (walked s.rules []) (at position h) ((codes "--" ++ name) ∷ v ∷ words) ≡ fold (walked s.rules []) (at position (valued s.rules name v h)) words
  both_walked position v words h e =
      ap (λ w. fold (walked s.rules []) (walked s.rules [] w v) words) (name_walked position h)
      ∙ ap (λ w. fold (walked s.rules []) w words) (value_walked position v h e)

  pub both_fault : (position : ℕ) (v : List ℕ) (words : List (List ℕ)) (h : Held) → is_value v ≡ true → settle_fault s.rules s.args_override_self h ≡ []
      → walk_fault s [] (at position h) ((codes "--" ++ name) ∷ v ∷ words) ≡ walk_fault s [] (at position (valued s.rules name v h)) words
  unfolding walk_fault
  both_fault position v words h e f =
      ap (λ k. or_else k (walk_fault s [] (walked s.rules [] (at position h) (codes "--" ++ name)) (v ∷ words))) (name_fault position h f)
      ∙ ap (λ w. walk_fault s [] w (v ∷ words)) (name_walked position h)
      ∙ ap (λ k. or_else k (walk_fault s [] (walked s.rules [] (waiting_for position name (named s.rules name h)) v) words)) (value_fault position v h e)
      ∙ ap (λ w. walk_fault s [] w words) (value_walked position v h e)

  -- what has come is at rest again
  pub settles : (v : List ℕ) (h : Held) → accepts false parser v ≡ true → is_some (lookup name (rows_so_far s.rules h)) ≡ false
      → settle_fault s.rules s.args_override_self (valued s.rules name v h) ≡ []
  settles v h a e = rw (o.by_id, has_is name (rows_so_far s.rules h) ∙ e, a) refl

  pub rows_after_it : (v : List ℕ) (h : Held) → is_some (lookup name (rows_so_far s.rules h)) ≡ false
      → rows_so_far s.rules (valued s.rules name v h) ≡ rows_so_far s.rules h ++ row name CommandLine v ∷ []
  rows_after_it v h e =
      let rows = rows_so_far s.rules h in
      ap (λ a. used_by_id a (v ∷ []) rows) o.by_id
      ∙ ap (with_values name (reading_of parser) CommandLine (v ∷ [])) (not_there name (λ _. []) [] rows e ∙ append-nil rows)
      ∙ not_there name (more_values CommandLine (v ∷ [])) (record (row name CommandLine v) { reading = reading_of parser } ∷ []) rows e
      ∙ ap (λ how. rows ++ record (row name CommandLine v) { reading = how } ∷ []) o.read
