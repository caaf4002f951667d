-- The command that plain words come to.
use Rattle.std.proofs.Common.{◌≡◌, ◌∙◌, ◌||◌, ◌++◌, ℕ, Bool, List, [], ◌∷◌, Option, Some, None, is_some, true, false, refl, sym, ap, ap₂, subst, arith, fold, find}
use Rattle.std.specs.Prelude.{codes, option_and_then, option_map, slice_get, if◌then◌else◌, unwrap_or, ⊤}
use Rattle.std.specs.Str.{bytes_eq}
use Rattle.clap.specs.Faults.{fault_of, settle_fault, walk_fault, turn_fault, defaults_fault, given_default_fault, check_fault, level_fault, entered_fault}
use Rattle.clap.specs.Kinds.{or_else}
use Rattle.clap.specs.Simple.{Shape, built, entered, label_of, names_of, new_shape, subcommand_of}
use Rattle.clap.specs.Values.{reading_of}
use Rattle.clap.specs.declared.builder.value_parser.Reading.TheVariants.{AsWritten}
use Rattle.clap.specs.Walk.{Rule, Row, Held, Walk, walk, walk_from, walked, settled, finished, with_default, nothing_held, has_row, row_text, answers_to, rows_after, arg_by_index, arg_by_id, more_values, is_empty}
use Rattle.clap.specs.declared.builder.value_parser.ValueParser.{ValueParser}
use Rattle.clap.specs.declared.builder.value_parser.ValueParser.TheVariants as parsers
use Rattle.clap.specs.declared.parser.matches.ValueSource.TheVariants.{CommandLine, DefaultValue}
use Rattle.clap.proofs.WalkLemmas.{walk_stopped}
use Rattle.clap.proofs.FaultLemmas.{stopped_fault}
use Rattle.ql_base.specs.Limits.{usual}
use Rattle.ql_base.specs.declared.limits.Policy.TheVariants.{Turn}
use Rattle.ql_top.specs.CommandLine.{ql_app}
use Rattle.ql_top.specs.PlainWords.{IsNumber, Given, usual_options}
use Rattle.ql_top.specs.Words.{asked, command_named, options_at, number_at, number_in, policy_at, policy_named, places_at}
use Rattle.ql_top.specs.declared.words.Command.{Command}
use Rattle.ql_top.specs.declared.words.Command.TheVariants as commands
use Rattle.ql_top.specs.declared.words.Command.TheVariants.{Run, Show, Check, Gen, Trial, Replay, Span}
use Rattle.ql_top.specs.declared.words.Options.{Options}
use Rattle.ql_top.proofs.Plain.{lookup, row, option_rule, has_is, not_there, one_more_row, other_row, at, rows_so_far, no_dashes, no_long, no_short}
use Rattle.ql_top.proofs.PlainOptions.{takes_number, IsTaken, Says, number_of, policy_of, Tell, HasAll, all_taken}

-- ---- defaults

module _ (name : List ℕ) (parser : ValueParser) (default : List ℕ) (read : reading_of parser ≡ AsWritten) where
  new_default : (rows : List Row) → is_some (lookup name rows) ≡ false
      → with_default rows (option_rule name parser default) ≡ rows ++ row name DefaultValue default ∷ []
  new_default rows e =
      rw (has_is name rows ∙ e)
      (not_there name (more_values DefaultValue (default ∷ [])) (record (row name DefaultValue default) { reading = reading_of parser } ∷ []) rows e
      ∙ ap (λ how. rows ++ record (row name DefaultValue default) { reading = how } ∷ []) read)

  no_default : (rows : List Row) → is_some (lookup name rows) ≡ true → with_default rows (option_rule name parser default) ≡ rows
  no_default rows e = rw (has_is name rows ∙ e) refl

  default_other : (n : List ℕ) (rows : List Row) → bytes_eq name n ≡ false → lookup n (with_default rows (option_rule name parser default)) ≡ lookup n rows
  default_other n rows e = go (is_some (lookup name rows)) refl
    where
      go : (b : Bool) → is_some (lookup name rows) ≡ b → lookup n (with_default rows (option_rule name parser default)) ≡ lookup n rows
      go true f = ap (lookup n) (no_default rows f)
      go false f = ap (lookup n) (new_default rows f) ∙ other_row n (row name DefaultValue default) rows e

  default_own : {X : Type 0} (f : Row → Option X) (d value : X) (rows : List Row) → bytes_eq name name ≡ true → f (row name DefaultValue default) ≡ Some d
      → Says f d value (lookup name rows) → option_and_then f (lookup name (with_default rows (option_rule name parser default))) ≡ Some value
  default_own {X} f d value rows same own says = go (lookup name rows) refl says
    where
      go : (found : Option Row) → lookup name rows ≡ found → Says f d value found
          → option_and_then f (lookup name (with_default rows (option_rule name parser default))) ≡ Some value
      go None g is =
          ap (λ xs. option_and_then f (lookup name xs)) (new_default rows (ap is_some g))
          ∙ ap (option_and_then f) (one_more_row name (row name DefaultValue default) rows (ap is_some g) same) ∙ own ∙ ap Some (sym is)
      go (Some r) g is = ap (λ xs. option_and_then f (lookup name xs)) (no_default rows (ap is_some g)) ∙ ap (option_and_then f) g ∙ is

-- an option that has no default
pub same_default : (a : Rule) (rows : List Row) → a.defaults ≡ [] → with_default rows a ≡ rows
same_default a rows e = rw e (either (has_row a.id rows))
  where
    either : (b : Bool) → (if b then rows else rows) ≡ rows
    either true = refl
    either false = refl

-- ---- the rows at the end

abbrev pub five : List Rule
five = option_rule (codes "workers") (parsers.Unsigned 1 16) (codes "1")
    ∷ option_rule (codes "budget") (parsers.Unsigned 1 20000000) (codes "2000000")
    ∷ option_rule (codes "cells") (parsers.Unsigned 1 4000000) (codes "1000000")
    ∷ option_rule (codes "quantum") (parsers.Unsigned 1 4096) (codes "256")
    ∷ option_rule (codes "policy") parsers.String (codes "turn")
    ∷ []

number_by_row : (name : List ℕ) (least most : ℕ) (rows : List Row) → number_at name least most rows ≡ option_and_then (number_of least most) (lookup name rows)
number_by_row name least most rows = go (lookup name rows)
  where
    go : (found : Option Row) → option_and_then (number_in least most) (option_and_then row_text found) ≡ option_and_then (number_of least most) found
    go None = refl
    go (Some r) = refl

policy_by_row : (rows : List Row) → policy_at rows ≡ option_and_then policy_of (lookup (codes "policy") rows)
policy_by_row rows = go (lookup (codes "policy") rows)
  where
    go : (found : Option Row) → option_and_then policy_named (option_and_then (λ r. slice_get r.values 0) found) ≡ option_and_then policy_of found
    go None = refl
    go (Some r) = refl

same_options : (o : Options) → o.limits.procs ≡ 65535 → o.limits.output ≡ 16777216
    → ◌≡◌ {A = Options} (record { workers = o.workers; limits = record usual { budget = o.limits.budget; cells = o.limits.cells; quantum = o.limits.quantum; policy = o.limits.policy } }) o
same_options o e f = ap₂ (λ p q. record o { limits = record o.limits { procs = p; output = q } }) (sym e) (sym f)

-- the options of a run, as the words gave them
read_options : (base rows : List Row) (o : Options) → Tell base o rows → options_at (fold with_default rows five) ≡ Some o
read_options base rows o t =
    let w = default_other (codes "workers") (parsers.Unsigned 1 16) (codes "1") refl in
    let b = default_other (codes "budget") (parsers.Unsigned 1 20000000) (codes "2000000") refl in
    let c = default_other (codes "cells") (parsers.Unsigned 1 4000000) (codes "1000000") refl in
    let q = default_other (codes "quantum") (parsers.Unsigned 1 4096) (codes "256") refl in
    let p = default_other (codes "policy") parsers.String (codes "turn") refl in
    let r1 = with_default rows (option_rule (codes "workers") (parsers.Unsigned 1 16) (codes "1")) in
    let r2 = with_default r1 (option_rule (codes "budget") (parsers.Unsigned 1 20000000) (codes "2000000")) in
    let r3 = with_default r2 (option_rule (codes "cells") (parsers.Unsigned 1 4000000) (codes "1000000")) in
    let r4 = with_default r3 (option_rule (codes "quantum") (parsers.Unsigned 1 4096) (codes "256")) in
    let r5 = with_default r4 (option_rule (codes "policy") parsers.String (codes "turn")) in
    let workers = number_by_row (codes "workers") 1 16 r5
    ∙ ap (option_and_then (number_of 1 16)) (p (codes "workers") r4 refl ∙ q (codes "workers") r3 refl ∙ c (codes "workers") r2 refl ∙ b (codes "workers") r1 refl)
    ∙ default_own (codes "workers") (parsers.Unsigned 1 16) (codes "1") refl (number_of 1 16) 1 o.workers rows refl refl t.workers in
    let budget = number_by_row (codes "budget") 1 20000000 r5
    ∙ ap (option_and_then (number_of 1 20000000)) (p (codes "budget") r4 refl ∙ q (codes "budget") r3 refl ∙ c (codes "budget") r2 refl)
    ∙ default_own (codes "budget") (parsers.Unsigned 1 20000000) (codes "2000000") refl (number_of 1 20000000) 2000000 o.limits.budget r1 refl refl
    (subst (Says (number_of 1 20000000) 2000000 o.limits.budget) (sym (w (codes "budget") rows refl)) t.budget) in
    let cells = number_by_row (codes "cells") 1 4000000 r5
    ∙ ap (option_and_then (number_of 1 4000000)) (p (codes "cells") r4 refl ∙ q (codes "cells") r3 refl)
    ∙ default_own (codes "cells") (parsers.Unsigned 1 4000000) (codes "1000000") refl (number_of 1 4000000) 1000000 o.limits.cells r2 refl refl
    (subst (Says (number_of 1 4000000) 1000000 o.limits.cells) (sym (b (codes "cells") r1 refl ∙ w (codes "cells") rows refl)) t.cells) in
    let quantum = number_by_row (codes "quantum") 1 4096 r5
    ∙ ap (option_and_then (number_of 1 4096)) (p (codes "quantum") r4 refl)
    ∙ default_own (codes "quantum") (parsers.Unsigned 1 4096) (codes "256") refl (number_of 1 4096) 256 o.limits.quantum r3 refl refl
    (subst (Says (number_of 1 4096) 256 o.limits.quantum) (sym (c (codes "quantum") r2 refl ∙ b (codes "quantum") r1 refl ∙ w (codes "quantum") rows refl)) t.quantum) in
    let policy = policy_by_row r5
    ∙ default_own (codes "policy") parsers.String (codes "turn") refl policy_of Turn o.limits.policy r4 refl refl
    (subst (Says policy_of Turn o.limits.policy)
    (sym (q (codes "policy") r3 refl ∙ c (codes "policy") r2 refl ∙ b (codes "policy") r1 refl ∙ w (codes "policy") rows refl)) t.policy) in
    rw (workers, budget, cells, quantum, policy) (ap Some (same_options o t.procs t.output))

kept_by_five : (n : List ℕ) (rows : List Row) → bytes_eq (codes "workers") n ≡ false → bytes_eq (codes "budget") n ≡ false → bytes_eq (codes "cells") n ≡ false
    → bytes_eq (codes "quantum") n ≡ false → bytes_eq (codes "policy") n ≡ false → lookup n (fold with_default rows five) ≡ lookup n rows
kept_by_five n rows a b c d e =
    default_other (codes "policy") parsers.String (codes "turn") refl n _ e
    ∙ default_other (codes "quantum") (parsers.Unsigned 1 4096) (codes "256") refl n _ d
    ∙ default_other (codes "cells") (parsers.Unsigned 1 4000000) (codes "1000000") refl n _ c
    ∙ default_other (codes "budget") (parsers.Unsigned 1 20000000) (codes "2000000") refl n _ b
    ∙ default_other (codes "workers") (parsers.Unsigned 1 16) (codes "1") refl n rows a

-- the defaults are values that the parser takes
FineDefaults : List Rule → Type 0
FineDefaults [] = ⊤
FineDefaults (a ∷ rest) = (given_default_fault a a.defaults ≡ []) × FineDefaults rest

no_default_fault : (rows : List Row) (rules : List Rule) → FineDefaults rules → defaults_fault rows rules ≡ []
unfolding defaults_fault FineDefaults
no_default_fault rows [] fine = refl
no_default_fault rows (a ∷ rest) fine =
    ap (λ k. or_else k (defaults_fault (with_default rows a) rest)) (one (has_row a.id rows || is_empty a.defaults))
    ∙ no_default_fault (with_default rows a) rest fine.1
  where
    one : (b : Bool) → (if b then [] else given_default_fault a a.defaults) ≡ []
    one true = refl
    one false = fine.0

-- ---- the command's own words

-- a level of the parse below the first has no fault
no_level_fault : (s : Shape) (words : List (List ℕ)) (position : ℕ) (h : Held) → walk_fault s [] (at 1 nothing_held) words ≡ []
    → fold (walked s.rules []) (at 1 nothing_held) words ≡ at position h → settle_fault s.rules s.args_override_self h ≡ [] → FineDefaults s.rules
    → check_fault s (finished s.rules h) false ≡ [] → level_fault s [] nothing_held words false [] ≡ []
no_level_fault s words position h walks ends rest fine checks =
    ap (λ (w : Walk). or_else (walk_fault s [] (at 1 nothing_held) words) (or_else (settle_fault s.rules s.args_override_self w.held)
    (or_else (defaults_fault (settled s.rules w.held).rows s.rules) (check_fault s (finished s.rules w.held) false)))) ends
    ∙ rw (walks, rest, no_default_fault (rows_so_far s.rules h) s.rules fine, checks) refl

-- the first word names the command
record Enters (name : List ℕ) (s : Shape) : Type 0 where
  walks : walked (built ql_app).top.rules (names_of (built ql_app)) (walk_from nothing_held) name ≡ record (walk_from nothing_held) { stopped = Some (name, []) }
  fault : turn_fault (built ql_app).top (names_of (built ql_app)) (walk_from nothing_held) name ≡ []
  found : find (λ s. answers_to name (label_of s)) (built ql_app).subs ≡ Some s

stops : (name : List ℕ) (s : Shape) (words : List (List ℕ)) → Enters name s
    → walk (built ql_app).top.rules (names_of (built ql_app)) nothing_held (name ∷ words) ≡ record (walk_from nothing_held) { stopped = Some (name, words) }
stops name s words e =
    ap (λ w. fold (walked (built ql_app).top.rules (names_of (built ql_app))) w words) e.walks
    ∙ sym (walk_stopped (built ql_app).top.rules (names_of (built ql_app)) (walk_from nothing_held) name [] words)

enters : (name : List ℕ) (s : Shape) (words : List (List ℕ)) → Enters name s → subcommand_of ql_app (codes "ql" ∷ name ∷ words) ≡ Some (s.name, rows_after s.rules [] words)
enters name s words e =
    ap (λ (w : Walk). entered (built ql_app) w.stopped) (stops name s words e) ∙ rw e.found refl

no_walk_fault : (name : List ℕ) (s : Shape) (words : List (List ℕ)) → Enters name s
    → walk_fault (built ql_app).top (names_of (built ql_app)) (walk_from nothing_held) (name ∷ words) ≡ []
unfolding walk_fault
no_walk_fault name s words e =
    ap (λ k. or_else k (walk_fault (built ql_app).top (names_of (built ql_app)) (walked (built ql_app).top.rules (names_of (built ql_app)) (walk_from nothing_held) name) words)) e.fault
    ∙ ap (λ w. walk_fault (built ql_app).top (names_of (built ql_app)) w words) e.walks
    ∙ stopped_fault (built ql_app).top (names_of (built ql_app)) (walk_from nothing_held) (name, []) words

no_fault : (name : List ℕ) (s : Shape) (words : List (List ℕ)) → Enters name s → level_fault s [] nothing_held words false [] ≡ []
    → fault_of ql_app (codes "ql" ∷ name ∷ words) ≡ []
unfolding defaults_fault
no_fault name s words e below =
    ap (λ (w : Walk). or_else (walk_fault (built ql_app).top (names_of (built ql_app)) (walk_from nothing_held) (name ∷ words))
    (or_else (entered_fault (built ql_app) w.stopped) (or_else (settle_fault [] false w.held)
    (or_else (defaults_fault (settled [] w.held).rows []) (check_fault (built ql_app).top (finished [] w.held) (is_some (entered (built ql_app) w.stopped))))))) (stops name s words e)
    ∙ rw (no_walk_fault name s words e, e.found, below) refl

asks : (name : List ℕ) (s : Shape) (words : List (List ℕ)) (command : Command) → Enters name s → level_fault s [] nothing_held words false [] ≡ []
    → command_named s.name (rows_after s.rules [] words) ≡ Some command → asked (name ∷ words) ≡ Some command
unfolding asked
asks name s words command e below is = rw (no_fault name s words e below, enters name s words e) is

-- ---- each command

abbrev shape_named : List ℕ → Shape
shape_named name = unwrap_or (find (λ s. answers_to name (label_of s)) (built ql_app).subs) (new_shape [])

enters_check : Enters (codes "check") (shape_named (codes "check"))
unfolding walked
enters_check = record { walks = refl; fault = refl; found = refl }

enters_show : Enters (codes "show") (shape_named (codes "show"))
unfolding walked
enters_show = record { walks = refl; fault = refl; found = refl }

enters_list : Enters (codes "list") (shape_named (codes "list"))
unfolding walked
enters_list = record { walks = refl; fault = refl; found = refl }

enters_replay : Enters (codes "replay") (shape_named (codes "replay"))
unfolding walked
enters_replay = record { walks = refl; fault = refl; found = refl }

enters_span : Enters (codes "span") (shape_named (codes "span"))
unfolding walked
enters_span = record { walks = refl; fault = refl; found = refl }

enters_run : Enters (codes "run") (shape_named (codes "run"))
unfolding walked
enters_run = record { walks = refl; fault = refl; found = refl }

enters_gen : Enters (codes "gen") (shape_named (codes "gen"))
unfolding walked
enters_gen = record { walks = refl; fault = refl; found = refl }

enters_trial : Enters (codes "trial") (shape_named (codes "trial"))
unfolding walked
enters_trial = record { walks = refl; fault = refl; found = refl }

pub check_asks : asked (codes "check" ∷ []) ≡ Some Check
unfolding walk_fault defaults_fault
check_asks = asks (codes "check") (shape_named (codes "check")) [] Check enters_check refl refl

pub show_asks : asked (codes "show" ∷ []) ≡ Some Show
unfolding walk_fault defaults_fault
show_asks = asks (codes "show") (shape_named (codes "show")) [] Show enters_show refl refl

pub list_asks : asked (codes "list" ∷ []) ≡ Some commands.List
unfolding walk_fault defaults_fault
list_asks = asks (codes "list") (shape_named (codes "list")) [] commands.List enters_list refl refl

pub replay_asks : asked (codes "replay" ∷ []) ≡ Some Replay
unfolding walk_fault defaults_fault
replay_asks = asks (codes "replay") (shape_named (codes "replay")) [] Replay enters_replay refl refl

pub span_asks : asked (codes "span" ∷ []) ≡ Some Span
unfolding walk_fault defaults_fault
span_asks = asks (codes "span") (shape_named (codes "span")) [] Span enters_span refl refl

-- the run's own words
run_has_all : HasAll (shape_named (codes "run")) []
run_has_all = record {
  workers = record { by_long = refl; by_id = refl; same = refl; word = refl; more = refl; read = refl };
  budget = record { by_long = refl; by_id = refl; same = refl; word = refl; more = refl; read = refl };
  cells = record { by_long = refl; by_id = refl; same = refl; word = refl; more = refl; read = refl };
  quantum = record { by_long = refl; by_id = refl; same = refl; word = refl; more = refl; read = refl };
  policy = record { by_long = refl; by_id = refl; same = refl; word = refl; more = refl; read = refl };
  no_workers = refl;
  no_budget = refl;
  no_cells = refl;
  no_quantum = refl;
  no_policy = refl;
}

tells_usual : (base : List Row) → is_some (lookup (codes "workers") base) ≡ false → is_some (lookup (codes "budget") base) ≡ false
    → is_some (lookup (codes "cells") base) ≡ false → is_some (lookup (codes "quantum") base) ≡ false → is_some (lookup (codes "policy") base) ≡ false
    → Tell base usual_options base
tells_usual base a b c d e = record {
  workers = by_default (number_of 1 16) 1 (lookup (codes "workers") base) a;
  budget = by_default (number_of 1 20000000) 2000000 (lookup (codes "budget") base) b;
  cells = by_default (number_of 1 4000000) 1000000 (lookup (codes "cells") base) c;
  quantum = by_default (number_of 1 4096) 256 (lookup (codes "quantum") base) d;
  policy = by_default policy_of Turn (lookup (codes "policy") base) e;
  procs = refl;
  output = refl;
  seed = refl;
  size = refl;
}
  where
    by_default : {X : Type 0} (f : Row → Option X) (d : X) (found : Option Row) → is_some found ≡ false → Says f d d found
    by_default f d None e = refl
    by_default f d (Some r) e = absurd cc

pub run_asks : (words : List (List ℕ)) (o : Options) → Given [] words usual_options o → asked (codes "run" ∷ words) ≡ Some (Run o)
unfolding FineDefaults
run_asks words o given =
    let s = shape_named (codes "run") in
    let all = all_taken s [] run_has_all [] words usual_options o given 1 nothing_held
    (record { rest = refl; seen = λ n e. refl; tell = tells_usual [] refl refl refl refl refl }) in
    asks (codes "run") s words (Run o) enters_run
    (no_level_fault s words 1 all.held all.faults all.walks all.holds.rest (refl, (refl, (refl, (refl, (refl, tt))))) refl)
    (ap (λ (w : Walk). command_named s.name (finished s.rules w.held)) all.walks ∙ ap (option_map Run) (read_options [] (rows_so_far s.rules all.held) o all.holds.tell))

-- ---- two numbers

abbrev seed_taken : Rule
seed_taken = record (option_rule (codes "seed") (parsers.Unsigned 0 18446744073709551615) []) { long = None; index = Some 1; defaults = []; required = true }

abbrev size_taken : Rule
size_taken = record (option_rule (codes "size") (parsers.Unsigned 1 3000) []) { long = None; index = Some 2; defaults = []; required = true }

-- the rows of a seed and a size
abbrev two_rows : List ℕ → List ℕ → List Row
two_rows first second = row (codes "seed") CommandLine first ∷ row (codes "size") CommandLine second ∷ []

-- what is held when they were read
abbrev two_held : List ℕ → List ℕ → Held
two_held first second = record { rows = row (codes "seed") CommandLine first ∷ []; pending = Some (codes "size", second ∷ []); skip = 0 }

record HasPlaces (s : Shape) : Type 0 where
  seed : arg_by_index s.rules 1 ≡ Some seed_taken
  size : arg_by_index s.rules 2 ≡ Some size_taken
  by_seed : arg_by_id s.rules (codes "seed") ≡ Some seed_taken
  by_size : arg_by_id s.rules (codes "size") ≡ Some size_taken

module _ (s : Shape) (places : HasPlaces s) (first second : List ℕ) (seed size : ℕ) (a : IsTaken 0 18446744073709551615 first seed) (b : IsTaken 1 3000 second size) where
  one_held : Held
  one_held = record { rows = []; pending = Some (codes "seed", first ∷ []); skip = 0 }

  first_walked : walked s.rules [] (at 1 nothing_held) first ≡ at 2 one_held
  unfolding walked one_held
  first_walked = rw (no_dashes first a.is_word, no_long first a.is_word, no_short first a.is_word, places.seed) refl

  second_walked : walked s.rules [] (at 2 one_held) second ≡ at 3 (two_held first second)
  unfolding walked one_held
  second_walked = rw (no_dashes second b.is_word, no_long second b.is_word, no_short second b.is_word, places.size, places.by_seed) refl

  first_fault : turn_fault s [] (at 1 nothing_held) first ≡ []
  first_fault = rw (no_dashes first a.is_word, no_long first a.is_word, no_short first a.is_word, places.seed) refl

  second_fault : turn_fault s [] (at 2 one_held) second ≡ []
  unfolding one_held
  second_fault = rw (no_dashes second b.is_word, no_long second b.is_word, no_short second b.is_word, places.size, places.by_seed, a.accepted) refl

  two_walked : (words : List (List ℕ)) → fold (walked s.rules []) (at 1 nothing_held) (first ∷ second ∷ words) ≡ fold (walked s.rules []) (at 3 (two_held first second)) words
  two_walked words =
      ap (λ w. fold (walked s.rules []) (walked s.rules [] w second) words) first_walked ∙ ap (λ w. fold (walked s.rules []) w words) second_walked

  two_fault : (words : List (List ℕ)) → walk_fault s [] (at 1 nothing_held) (first ∷ second ∷ words) ≡ walk_fault s [] (at 3 (two_held first second)) words
  unfolding walk_fault
  two_fault words =
      ap (λ k. or_else k (walk_fault s [] (walked s.rules [] (at 1 nothing_held) first) (second ∷ words))) first_fault
      ∙ ap (λ w. walk_fault s [] w (second ∷ words)) first_walked
      ∙ ap (λ k. or_else k (walk_fault s [] (walked s.rules [] (at 2 one_held) second) words)) second_fault
      ∙ ap (λ w. walk_fault s [] w words) second_walked

  two_settled : rows_so_far s.rules (two_held first second) ≡ two_rows first second
  two_settled = rw places.by_size refl

  two_rest : settle_fault s.rules s.args_override_self (two_held first second) ≡ []
  two_rest = rw (places.by_size, b.accepted) refl

  read_places : (rows : List Row) → lookup (codes "seed") rows ≡ Some (row (codes "seed") CommandLine first)
      → lookup (codes "size") rows ≡ Some (row (codes "size") CommandLine second) → places_at rows ≡ Some (seed, size)
  read_places rows e f = rw (e, a.read, f, b.read) refl

gen_places : HasPlaces (shape_named (codes "gen"))
gen_places = record { seed = refl; size = refl; by_seed = refl; by_size = refl }

trial_places : HasPlaces (shape_named (codes "trial"))
trial_places = record { seed = refl; size = refl; by_seed = refl; by_size = refl }

pub gen_asks : (first second : List ℕ) (seed size : ℕ) → IsNumber 0 18446744073709551615 first seed → IsNumber 1 3000 second size
    → asked (codes "gen" ∷ first ∷ second ∷ []) ≡ Some (Gen seed size)
unfolding FineDefaults walk_fault
gen_asks first second seed size is_seed is_size =
    let s = shape_named (codes "gen") in
    let a = takes_number 0 18446744073709551615 first seed (omega arith) is_seed in
    let b = takes_number 1 3000 second size (omega arith) is_size in
    let ends = two_walked s gen_places first second seed size a b [] in
    asks (codes "gen") s (first ∷ second ∷ []) (Gen seed size) enters_gen
    (no_level_fault s (first ∷ second ∷ []) 3 (two_held first second) (two_fault s gen_places first second seed size a b []) ends
    (two_rest s gen_places first second seed size a b) (refl, (refl, tt)) refl)
    (ap (λ (w : Walk). command_named s.name (finished s.rules w.held)) ends
    ∙ ap (option_map (λ p. Gen p.0 p.1)) (read_places s gen_places first second seed size a b (two_rows first second) refl refl))

module _ (first second : List ℕ) where
  trial_has_all : HasAll (shape_named (codes "trial")) (two_rows first second)
  trial_has_all = record {
    workers = record { by_long = refl; by_id = refl; same = refl; word = refl; more = refl; read = refl };
    budget = record { by_long = refl; by_id = refl; same = refl; word = refl; more = refl; read = refl };
    cells = record { by_long = refl; by_id = refl; same = refl; word = refl; more = refl; read = refl };
    quantum = record { by_long = refl; by_id = refl; same = refl; word = refl; more = refl; read = refl };
    policy = record { by_long = refl; by_id = refl; same = refl; word = refl; more = refl; read = refl };
    no_workers = refl;
    no_budget = refl;
    no_cells = refl;
    no_quantum = refl;
    no_policy = refl;
  }

  trial_checks : (rows : List Row) → lookup (codes "seed") rows ≡ Some (row (codes "seed") CommandLine first)
      → lookup (codes "size") rows ≡ Some (row (codes "size") CommandLine second) → check_fault (shape_named (codes "trial")) rows false ≡ []
  trial_checks rows e f = rw (e, f) refl

  -- the rows at the end
  trial_ends : (h : Held) → finished (shape_named (codes "trial")).rules h ≡ fold with_default (rows_so_far (shape_named (codes "trial")).rules h) five
  trial_ends h =
      let rows = rows_so_far (shape_named (codes "trial")).rules h in
      ap (λ xs. fold with_default xs five) (same_default size_taken (with_default rows seed_taken) refl ∙ same_default seed_taken rows refl)

  module _ (seed size : ℕ) (is_seed : IsNumber 0 18446744073709551615 first seed) (is_size : IsNumber 1 3000 second size) (words : List (List ℕ)) (o : Options)
      (given : Given [] words usual_options o) where
    pub trial_asks : asked (codes "trial" ∷ first ∷ second ∷ words) ≡ Some (Trial seed size o)
    unfolding FineDefaults
    trial_asks =
        let s = shape_named (codes "trial") in
        let base = two_rows first second in
        let a = takes_number 0 18446744073709551615 first seed (omega arith) is_seed in
        let b = takes_number 1 3000 second size (omega arith) is_size in
        let settled = two_settled s trial_places first second seed size a b in
        let all = all_taken s base trial_has_all [] words usual_options o given 3 (two_held first second)
        (record {
          rest = two_rest s trial_places first second seed size a b;
          seen = λ n e. ap (λ xs. is_some (lookup n xs)) settled ∙ e;
          tell = subst (Tell base usual_options) (sym settled) (tells_usual base refl refl refl refl refl);
        }) in
        let ends = two_walked s trial_places first second seed size a b words ∙ all.walks in
        let rows = rows_so_far s.rules all.held in
        let seed_row = ap (lookup (codes "seed")) (trial_ends all.held) ∙ kept_by_five (codes "seed") rows refl refl refl refl refl ∙ all.holds.tell.seed in
        let size_row = ap (lookup (codes "size")) (trial_ends all.held) ∙ kept_by_five (codes "size") rows refl refl refl refl refl ∙ all.holds.tell.size in
        asks (codes "trial") s (first ∷ second ∷ words) (Trial seed size o) enters_trial
        (no_level_fault s (first ∷ second ∷ words) 3 all.held (two_fault s trial_places first second seed size a b words ∙ all.faults) ends all.holds.rest
        (refl, (refl, (refl, (refl, (refl, (refl, (refl, tt))))))) (trial_checks (finished s.rules all.held) seed_row size_row))
        (ap (λ (w : Walk). command_named s.name (finished s.rules w.held)) ends
        ∙ ap (option_and_then (λ p. option_map (Trial p.0 p.1) (options_at (finished s.rules all.held))))
        (read_places s trial_places first second seed size a b (finished s.rules all.held) seed_row size_row)
        ∙ ap (option_map (Trial seed size)) (ap options_at (trial_ends all.held) ∙ read_options base rows o all.holds.tell))
