-- The command `ql`, as the parser of the words reads it: what each word may be, its range, and what holds where it isn't there.
use Rattle.std.specs.Prelude.{ℕ, [], ◌∷◌, List, codes, Some, true}
use Rattle.clap.specs.Walk.{Rule}
use Rattle.clap.specs.Simple.{App, new_app, new_rule, new_shape, with_rule, with_subcommand}
use Rattle.clap.specs.declared.builder.value_parser.ValueParser.TheVariants as parsers

-- a whole number from least to most, after `--name`
abbrev pub number_rule : (name : List ℕ) → (least most : ℕ) → (default : List ℕ) → Rule
number_rule name least most default = record (new_rule name) {
  long = Some name;
  parser = Some (parsers.Unsigned least most);
  defaults = default ∷ [];
}

abbrev pub workers_rule : Rule
workers_rule = number_rule (codes "workers") 1 16 (codes "1")

abbrev pub budget_rule : Rule
budget_rule = number_rule (codes "budget") 1 20000000 (codes "2000000")

abbrev pub cells_rule : Rule
cells_rule = number_rule (codes "cells") 1 4000000 (codes "1000000")

abbrev pub quantum_rule : Rule
quantum_rule = number_rule (codes "quantum") 1 4096 (codes "256")

-- Any text; which texts are policies is said where they are read.
abbrev pub policy_rule : Rule
policy_rule = record (new_rule (codes "policy")) {
  long = Some (codes "policy");
  defaults = codes "turn" ∷ [];
}

-- a whole number from least to most, which must be there
abbrev pub place_rule : (name : List ℕ) → (least most : ℕ) → Rule
place_rule name least most = record (new_rule name) {
  parser = Some (parsers.Unsigned least most);
  required = true;
}

abbrev pub seed_rule : Rule
seed_rule = place_rule (codes "seed") 0 18446744073709551615

abbrev pub size_rule : Rule
size_rule = place_rule (codes "size") 1 3000

abbrev pub with_places : App → App
with_places app = with_rule (with_rule app seed_rule) size_rule

abbrev pub with_options : App → App
with_options app = with_rule (with_rule (with_rule (with_rule (with_rule app workers_rule) budget_rule) cells_rule) quantum_rule) policy_rule

abbrev pub plain_app : List ℕ → App
plain_app = new_app

abbrev pub run_app : App
run_app = with_options (new_app (codes "run"))

abbrev pub gen_app : App
gen_app = with_places (new_app (codes "gen"))

abbrev pub trial_app : App
trial_app = with_options (with_places (new_app (codes "trial")))

-- one of the commands below must be there; there is no help and no version
abbrev pub top_app : App
top_app = record {
  top = record (new_shape (codes "ql")) {
    subcommand_required = true;
    disable_help_flag = true;
    disable_help_subcommand = true;
    disable_version_flag = true;
  };
  subs = [];
}

abbrev pub with_command : App → App → App
with_command app sub = with_subcommand app sub.top

-- one more command, which takes no words of its own
abbrev pub with_plain : App → List ℕ → App
with_plain app name = with_command app (plain_app name)

-- the commands that look at a source or a book
abbrev pub with_looks : App → App
with_looks app = with_plain (with_plain (with_plain (with_plain (with_plain app (codes "check")) (codes "show")) (codes "list")) (codes "replay")) (codes "span")

abbrev pub ql_app : App
ql_app = with_command (with_command (with_command (with_looks top_app) run_app) gen_app) trial_app
