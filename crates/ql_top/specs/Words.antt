-- What a list of words asks for.
use Rattle.std.specs.Prelude.{◌≡◌, ◌≤◌, ℕ, if◌then◌else◌, List, [], ◌∷◌, map, Option, Some, None, option_map, option_and_then, codes}
use Rattle.std.specs.Borrow.{Bor}
use Rattle.std.specs.Str.{bytes_eq}
use Rattle.std.specs.Str.Parse.{digits_value, without_leading_plus}
use Rattle.clap.specs.Faults.{fault_of}
use Rattle.clap.specs.Kinds.{Kinds}
use Rattle.clap.specs.Simple.{subcommand_of}
use Rattle.clap.specs.ValueTests.{is_unsigned_in}
use Rattle.clap.specs.Walk.{Row, one_of, first_of}
use Rattle.ql_base.specs.Limits.{usual}
use Rattle.ql_base.specs.declared.limits.Limits.{Limits}
use Rattle.ql_base.specs.declared.limits.Policy.{Policy}
use Rattle.ql_base.specs.declared.limits.Policy.TheVariants.{Old, New, Turn}
use Rattle.ql_top.specs.CommandLine.{ql_app}
use Rattle.ql_top.specs.declared.words.Command.{Command}
use Rattle.ql_top.specs.declared.words.Command.TheVariants as commands
use Rattle.ql_top.specs.declared.words.Command.TheVariants.{Run, Show, Check, Gen, Trial, Replay, Span}
use Rattle.ql_top.specs.declared.words.Options.{Options}

abbrev pub texts_of : List (Bor (List ℕ)) → List (List ℕ)
texts_of words = map (λ w. w.now) words

-- the number that a text writes, from least to most
abbrev pub number_in : (least most : ℕ) → List ℕ → Option ℕ
number_in least most text = if is_unsigned_in least most text then Some (digits_value 10 (without_leading_plus text)) else None

-- the number of this name among what the words gave
abbrev pub number_at : (name : List ℕ) → (least most : ℕ) → List Row → Option ℕ
number_at name least most rows = option_and_then (number_in least most) (one_of name rows)

abbrev pub policy_named : List ℕ → Option Policy
policy_named text =
    if bytes_eq text (codes "old") then Some Old
    else (if bytes_eq text (codes "new") then Some New
    else (if bytes_eq text (codes "turn") then Some Turn else None))

abbrev pub policy_at : List Row → Option Policy
policy_at rows = option_and_then policy_named (first_of (codes "policy") rows)

-- the options of a run; what no option names is as usual
abbrev pub options_at : List Row → Option Options
options_at rows =
    option_and_then (λ workers. option_and_then (λ budget. option_and_then (λ cells. option_and_then (λ quantum. option_map (λ policy.
    record { workers = workers; limits = record usual { budget = budget; cells = cells; quantum = quantum; policy = policy } })
    (policy_at rows)) (number_at (codes "quantum") 1 4096 rows)) (number_at (codes "cells") 1 4000000 rows))
    (number_at (codes "budget") 1 20000000 rows)) (number_at (codes "workers") 1 16 rows)

abbrev pub run_at : List Row → Option Command
run_at rows = option_map Run (options_at rows)

-- a seed and a size
abbrev pub places_at : List Row → Option (ℕ × ℕ)
places_at rows = option_and_then (λ seed. option_map (λ size. (seed, size)) (number_at (codes "size") 1 3000 rows))
    (number_at (codes "seed") 0 18446744073709551615 rows)

abbrev pub gen_at : List Row → Option Command
gen_at rows = option_map (λ p. Gen p.0 p.1) (places_at rows)

abbrev pub trial_at : List Row → Option Command
trial_at rows = option_and_then (λ p. option_map (Trial p.0 p.1) (options_at rows)) (places_at rows)

-- the command of this name, with what the words gave for it
abbrev pub command_named : List ℕ → List Row → Option Command
command_named name rows =
    if bytes_eq name (codes "check") then Some Check
    else (if bytes_eq name (codes "show") then Some Show
    else (if bytes_eq name (codes "list") then Some commands.List
    else (if bytes_eq name (codes "run") then run_at rows
    else (if bytes_eq name (codes "gen") then gen_at rows
    else (if bytes_eq name (codes "trial") then trial_at rows
    else (if bytes_eq name (codes "replay") then Some Replay
    else (if bytes_eq name (codes "span") then Some Span else None)))))))

-- the limits of the command's run, where it has one
abbrev pub limits_of : Command → Limits
limits_of (Run options) = options.limits
limits_of (Trial seed size options) = options.limits
limits_of command = usual

-- a size of a text that is generated
abbrev pub IsSize : ℕ → Type 0
IsSize size = (1 ≤ size) × (size ≤ 3000)

-- limits that words may give
pub record IsAsked (limits : Limits) : Type 0 where
  pub budget : limits.budget ≤ 20000000
  pub cells : limits.cells ≤ 4000000
  pub procs : limits.procs ≡ 65535
  pub output : limits.output ≡ 16777216

-- the command's numbers are in their ranges
abbrev pub IsInRange : Command → Type 0
IsInRange (Run options) = IsAsked options.limits
IsInRange (Gen seed size) = IsSize size
IsInRange (Trial seed size options) = IsSize size × IsAsked options.limits
IsInRange command = Prim.Unit {0}

-- nothing where the parser promises a fault
abbrev pub unless_faulty : Kinds → Option Command → Option Command
unless_faulty [] command = command
unless_faulty (k ∷ ks) command = None

-- What the words ask for: the command and the numbers that the parser promises for `ql` and these words, or nothing where it
-- promises a fault, and nothing where the policy is none of the three.
unfoldable pub asked : List (List ℕ) → Option Command
asked words = unless_faulty (fault_of ql_app (codes "ql" ∷ words))
    (option_and_then (λ p. command_named p.0 p.1) (subcommand_of ql_app (codes "ql" ∷ words)))
