-- What plain options come to.
use Rattle.std.proofs.Common.{◌≡◌, ◌∙◌, ◌||◌, ◌++◌, ◌<◌, ◌^◌, ℕ, List, [], ◌∷◌, Option, Some, None, is_some, true, false, refl, sym, ap, subst, arith, fold}
use Rattle.std.specs.Prelude.{codes, option_and_then, slice_get}
use Rattle.std.specs.Char.{digit_value}
use Rattle.std.specs.List.{list_any}
use Rattle.std.specs.Str.{bytes_eq}
use Rattle.std.specs.Str.Parse.{IsNumeral, digits_value, without_leading_plus}
use Rattle.std.proofs.lemmas.Bool.{ne_eqb}
use Rattle.clap.specs.Faults.{settle_fault, walk_fault}
use Rattle.clap.specs.Simple.{Shape}
use Rattle.clap.specs.ValueTests.{accepts, is_unsigned_in}
use Rattle.clap.specs.Walk.{Row, Held, walked, row_text}
use Rattle.clap.specs.declared.builder.value_parser.ValueParser.{ValueParser}
use Rattle.clap.specs.declared.builder.value_parser.ValueParser.TheVariants as parsers
use Rattle.clap.specs.declared.parser.matches.ValueSource.TheVariants.{CommandLine}
use Rattle.clap.proofs.ValueTestLemmas.{Accepts-accepts}
use Rattle.ql_base.specs.declared.limits.Policy.{Policy}
use Rattle.ql_base.specs.declared.limits.Policy.TheVariants.{Old, New, Turn}
use Rattle.ql_top.specs.PlainWords.{IsNumber, Sets, Given, workers, budget, cells, quantum, old, new, turn, no_more, one_more}
use Rattle.ql_top.specs.Words.{number_in, policy_named}
use Rattle.ql_top.specs.declared.words.Options.{Options}
use Rattle.ql_top.proofs.Numbers.{if_true}
use Rattle.ql_top.proofs.Plain.{is_value, lookup, row, HasOption, at, rows_so_far, valued, both_walked, both_fault, settles, rows_after_it, one_more_row, other_row, is_more}

-- ---- numbers

numeral_starts : (text : List ℕ) → IsNumeral 10 text → (is_value text ≡ true) × (without_leading_plus text ≡ text)
numeral_starts [] h = absurd (omega (arith, h.0))
numeral_starts (x ∷ xs) h = (rw (ne_eqb x 45 (λ e. no_hyphen (rw e at h.1.0))) refl, rw (ne_eqb x 43 (λ e. no_plus (rw e at h.1.0))) refl)
  where
    no_hyphen : digit_value 45 < 10 → Prim.⊥
    no_hyphen f = absurd (omega (arith, f))

    no_plus : digit_value 43 < 10 → Prim.⊥
    no_plus f = absurd (omega (arith, f))

-- what a number's text is taken for
pub record IsTaken (least most : ℕ) (text : List ℕ) (n : ℕ) : Type 0 where
  pub is_word : is_value text ≡ true
  pub accepted : is_unsigned_in least most text ≡ true
  pub read : number_in least most text ≡ Some n

pub takes_number : (least most : ℕ) (text : List ℕ) (n : ℕ) → most < 2 ^ 64 → IsNumber least most text n → IsTaken least most text n
takes_number least most text n fits is =
    let starts = numeral_starts text is.numeral in
    let accepted = Accepts-accepts false (parsers.Unsigned least most) text
    (rw starts.1 is.numeral, rw (starts.1, is.value) (omega (arith, is.high, fits)), rw (starts.1, is.value) is.low, rw (starts.1, is.value) is.high) in
    record {
      is_word = starts.0;
      accepted = accepted;
      read = if_true (is_unsigned_in least most text) (digits_value 10 (without_leading_plus text)) accepted ∙ ap Some (ap (digits_value 10) starts.1 ∙ is.value);
    }

-- ---- what rows say

-- what the row of an option says, or the default where there is none
abbrev pub Says : {X : Type 0} → (Row → Option X) → (default value : X) → Option Row → Type 0
Says read default value None = value ≡ default
Says read default value (Some r) = read r ≡ Some value

abbrev pub number_of : (least most : ℕ) → Row → Option ℕ
number_of least most r = option_and_then (number_in least most) (row_text r)

abbrev pub policy_of : Row → Option Policy
policy_of r = option_and_then policy_named (slice_get r.values 0)

-- ---- options so far

-- what rows say of the options of a run, after those rows
pub record Tell (base : List Row) (o : Options) (rows : List Row) : Type 0 where
  pub workers : Says (number_of 1 16) 1 o.workers (lookup (codes "workers") rows)
  pub budget : Says (number_of 1 20000000) 2000000 o.limits.budget (lookup (codes "budget") rows)
  pub cells : Says (number_of 1 4000000) 1000000 o.limits.cells (lookup (codes "cells") rows)
  pub quantum : Says (number_of 1 4096) 256 o.limits.quantum (lookup (codes "quantum") rows)
  pub policy : Says policy_of Turn o.limits.policy (lookup (codes "policy") rows)
  pub procs : o.limits.procs ≡ 65535
  pub output : o.limits.output ≡ 16777216
  pub seed : lookup (codes "seed") rows ≡ lookup (codes "seed") base
  pub size : lookup (codes "size") rows ≡ lookup (codes "size") base

-- one more row, of this name and with this value
record OneMore (rows now : List Row) (name value : List ℕ) : Type 0 where
  own : lookup name now ≡ Some (row name CommandLine value)
  other : (n : List ℕ) → bytes_eq name n ≡ false → lookup n rows ≡ lookup n now

module _ (base rows now : List Row) (o : Options) (t : Tell base o rows) (value : List ℕ) where
  tell_workers : (n : ℕ) → number_in 1 16 value ≡ Some n → OneMore rows now (codes "workers") value → Tell base (record o { workers = n }) now
  tell_workers n read one = record {
    procs = t.procs;
    output = t.output;
    workers = subst (Says (number_of 1 16) 1 n) (sym one.own) read;
    budget = subst (Says (number_of 1 20000000) 2000000 o.limits.budget) (one.other (codes "budget") refl) t.budget;
    cells = subst (Says (number_of 1 4000000) 1000000 o.limits.cells) (one.other (codes "cells") refl) t.cells;
    quantum = subst (Says (number_of 1 4096) 256 o.limits.quantum) (one.other (codes "quantum") refl) t.quantum;
    policy = subst (Says policy_of Turn o.limits.policy) (one.other (codes "policy") refl) t.policy;
    seed = sym (one.other (codes "seed") refl) ∙ t.seed;
    size = sym (one.other (codes "size") refl) ∙ t.size;
  }

  tell_budget : (n : ℕ) → number_in 1 20000000 value ≡ Some n → OneMore rows now (codes "budget") value
      → Tell base (record o { limits = record o.limits { budget = n } }) now
  tell_budget n read one = record {
    procs = t.procs;
    output = t.output;
    workers = subst (Says (number_of 1 16) 1 o.workers) (one.other (codes "workers") refl) t.workers;
    budget = subst (Says (number_of 1 20000000) 2000000 n) (sym one.own) read;
    cells = subst (Says (number_of 1 4000000) 1000000 o.limits.cells) (one.other (codes "cells") refl) t.cells;
    quantum = subst (Says (number_of 1 4096) 256 o.limits.quantum) (one.other (codes "quantum") refl) t.quantum;
    policy = subst (Says policy_of Turn o.limits.policy) (one.other (codes "policy") refl) t.policy;
    seed = sym (one.other (codes "seed") refl) ∙ t.seed;
    size = sym (one.other (codes "size") refl) ∙ t.size;
  }

  tell_cells : (n : ℕ) → number_in 1 4000000 value ≡ Some n → OneMore rows now (codes "cells") value
      → Tell base (record o { limits = record o.limits { cells = n } }) now
  tell_cells n read one = record {
    procs = t.procs;
    output = t.output;
    workers = subst (Says (number_of 1 16) 1 o.workers) (one.other (codes "workers") refl) t.workers;
    budget = subst (Says (number_of 1 20000000) 2000000 o.limits.budget) (one.other (codes "budget") refl) t.budget;
    cells = subst (Says (number_of 1 4000000) 1000000 n) (sym one.own) read;
    quantum = subst (Says (number_of 1 4096) 256 o.limits.quantum) (one.other (codes "quantum") refl) t.quantum;
    policy = subst (Says policy_of Turn o.limits.policy) (one.other (codes "policy") refl) t.policy;
    seed = sym (one.other (codes "seed") refl) ∙ t.seed;
    size = sym (one.other (codes "size") refl) ∙ t.size;
  }

  tell_quantum : (n : ℕ) → number_in 1 4096 value ≡ Some n → OneMore rows now (codes "quantum") value
      → Tell base (record o { limits = record o.limits { quantum = n } }) now
  tell_quantum n read one = record {
    procs = t.procs;
    output = t.output;
    workers = subst (Says (number_of 1 16) 1 o.workers) (one.other (codes "workers") refl) t.workers;
    budget = subst (Says (number_of 1 20000000) 2000000 o.limits.budget) (one.other (codes "budget") refl) t.budget;
    cells = subst (Says (number_of 1 4000000) 1000000 o.limits.cells) (one.other (codes "cells") refl) t.cells;
    quantum = subst (Says (number_of 1 4096) 256 n) (sym one.own) read;
    policy = subst (Says policy_of Turn o.limits.policy) (one.other (codes "policy") refl) t.policy;
    seed = sym (one.other (codes "seed") refl) ∙ t.seed;
    size = sym (one.other (codes "size") refl) ∙ t.size;
  }

  tell_policy : (p : Policy) → policy_named value ≡ Some p → OneMore rows now (codes "policy") value
      → Tell base (record o { limits = record o.limits { policy = p } }) now
  tell_policy p read one = record {
    procs = t.procs;
    output = t.output;
    workers = subst (Says (number_of 1 16) 1 o.workers) (one.other (codes "workers") refl) t.workers;
    budget = subst (Says (number_of 1 20000000) 2000000 o.limits.budget) (one.other (codes "budget") refl) t.budget;
    cells = subst (Says (number_of 1 4000000) 1000000 o.limits.cells) (one.other (codes "cells") refl) t.cells;
    quantum = subst (Says (number_of 1 4096) 256 o.limits.quantum) (one.other (codes "quantum") refl) t.quantum;
    policy = subst (Says policy_of Turn p) (sym one.own) read;
    seed = sym (one.other (codes "seed") refl) ∙ t.seed;
    size = sym (one.other (codes "size") refl) ∙ t.size;
  }

module _ (s : Shape) (base : List Row) where
  -- the parser has the options of a run, and the rows before them have none
  pub record HasAll : Type 0 where
    pub workers : HasOption s.rules (codes "workers") (parsers.Unsigned 1 16) (codes "1")
    pub budget : HasOption s.rules (codes "budget") (parsers.Unsigned 1 20000000) (codes "2000000")
    pub cells : HasOption s.rules (codes "cells") (parsers.Unsigned 1 4000000) (codes "1000000")
    pub quantum : HasOption s.rules (codes "quantum") (parsers.Unsigned 1 4096) (codes "256")
    pub policy : HasOption s.rules (codes "policy") parsers.String (codes "turn")
    pub no_workers : is_some (lookup (codes "workers") base) ≡ false
    pub no_budget : is_some (lookup (codes "budget") base) ≡ false
    pub no_cells : is_some (lookup (codes "cells") base) ≡ false
    pub no_quantum : is_some (lookup (codes "quantum") base) ≡ false
    pub no_policy : is_some (lookup (codes "policy") base) ≡ false

  -- what is held when these options were given, and no others than those named before
  pub record Holds (before : List (List ℕ)) (o : Options) (h : Held) : Type 0 where
    pub rest : settle_fault s.rules s.args_override_self h ≡ []
    pub seen : (n : List ℕ) → is_some (lookup n base) ≡ false → is_some (lookup n (rows_so_far s.rules h)) ≡ list_any (λ other. bytes_eq other n) before
    pub tell : Tell base o (rows_so_far s.rules h)

  -- the two words of an option were read
  record Taken (before : List (List ℕ)) (name value : List ℕ) (next : Options) (h : Held) : Type 0 where
    walks : (position : ℕ) (words : List (List ℕ)) → fold (walked s.rules []) (at position h) ((codes "--" ++ name) ∷ value ∷ words)
        ≡ fold (walked s.rules []) (at position (valued s.rules name value h)) words
    faults : (position : ℕ) (words : List (List ℕ)) → walk_fault s [] (at position h) ((codes "--" ++ name) ∷ value ∷ words)
        ≡ walk_fault s [] (at position (valued s.rules name value h)) words
    holds : Holds (name ∷ before) next (valued s.rules name value h)

  module _ (all : HasAll) (before : List (List ℕ)) (o : Options) (h : Held) (is : Holds before o h) where
    module _ (name value : List ℕ) (parser : ValueParser) (default : List ℕ) (has : HasOption s.rules name parser default)
        (is_word : is_value value ≡ true) (accepted : accepts false parser value ≡ true) (free : is_some (lookup name base) ≡ false)
        (unseen : list_any (λ other. bytes_eq other name) before ≡ false) where
      none : is_some (lookup name (rows_so_far s.rules h)) ≡ false
      none = is.seen name free ∙ unseen

      more : rows_so_far s.rules (valued s.rules name value h) ≡ rows_so_far s.rules h ++ row name CommandLine value ∷ []
      more = rows_after_it s name parser default has value h none

      one_row : OneMore (rows_so_far s.rules h) (rows_so_far s.rules (valued s.rules name value h)) name value
      one_row = record {
        own = ap (lookup name) more ∙ one_more_row name (row name CommandLine value) (rows_so_far s.rules h) none has.same;
        other = λ n e. sym (ap (lookup n) more ∙ other_row n (row name CommandLine value) (rows_so_far s.rules h) e);
      }

      takes : (next : Options) → Tell base next (rows_so_far s.rules (valued s.rules name value h)) → Taken before name value next h
      takes next tell = record {
        walks = λ position words. both_walked s name parser default has position value words h is_word;
        faults = λ position words. both_fault s name parser default has position value words h is_word is.rest;
        holds = record {
          rest = settles s name parser default has value h accepted none;
          seen = λ n e. ap (λ xs. is_some (lookup n xs)) more ∙ is_more n (row name CommandLine value) (rows_so_far s.rules h) ∙ ap (λ b. bytes_eq name n || b) (is.seen n e);
          tell = tell;
        };
      }

    taken_policy : (value : List ℕ) (p : Policy) → policy_named value ≡ Some p → is_value value ≡ true
        → list_any (λ other. bytes_eq other (codes "policy")) before ≡ false
        → Taken before (codes "policy") value (record o { limits = record o.limits { policy = p } }) h
    taken_policy value p read is_word unseen =
        takes (codes "policy") value parsers.String (codes "turn") all.policy is_word refl all.no_policy unseen _
        (tell_policy base _ _ o is.tell value p read (one_row (codes "policy") value parsers.String (codes "turn") all.policy is_word refl all.no_policy unseen))

    taken : (name value : List ℕ) (next : Options) → Sets name value o next → list_any (λ other. bytes_eq other name) before ≡ false → Taken before name value next h
    taken name value next (workers is_n) unseen =
        let f = takes_number 1 16 value _ (omega arith) is_n in
        takes (codes "workers") value (parsers.Unsigned 1 16) (codes "1") all.workers f.is_word f.accepted all.no_workers unseen _
        (tell_workers base _ _ o is.tell value _ f.read
        (one_row (codes "workers") value (parsers.Unsigned 1 16) (codes "1") all.workers f.is_word f.accepted all.no_workers unseen))
    taken name value next (budget is_n) unseen =
        let f = takes_number 1 20000000 value _ (omega arith) is_n in
        takes (codes "budget") value (parsers.Unsigned 1 20000000) (codes "2000000") all.budget f.is_word f.accepted all.no_budget unseen _
        (tell_budget base _ _ o is.tell value _ f.read
        (one_row (codes "budget") value (parsers.Unsigned 1 20000000) (codes "2000000") all.budget f.is_word f.accepted all.no_budget unseen))
    taken name value next (cells is_n) unseen =
        let f = takes_number 1 4000000 value _ (omega arith) is_n in
        takes (codes "cells") value (parsers.Unsigned 1 4000000) (codes "1000000") all.cells f.is_word f.accepted all.no_cells unseen _
        (tell_cells base _ _ o is.tell value _ f.read
        (one_row (codes "cells") value (parsers.Unsigned 1 4000000) (codes "1000000") all.cells f.is_word f.accepted all.no_cells unseen))
    taken name value next (quantum is_n) unseen =
        let f = takes_number 1 4096 value _ (omega arith) is_n in
        takes (codes "quantum") value (parsers.Unsigned 1 4096) (codes "256") all.quantum f.is_word f.accepted all.no_quantum unseen _
        (tell_quantum base _ _ o is.tell value _ f.read
        (one_row (codes "quantum") value (parsers.Unsigned 1 4096) (codes "256") all.quantum f.is_word f.accepted all.no_quantum unseen))
    taken name value next old unseen = taken_policy (codes "old") Old refl refl unseen
    taken name value next new unseen = taken_policy (codes "new") New refl refl unseen
    taken name value next turn unseen = taken_policy (codes "turn") Turn refl refl unseen

  -- all words of options were read
  pub record AllTaken (words : List (List ℕ)) (end : Options) (position : ℕ) (h : Held) : Type 0 where
    pub held : Held
    pub before : List (List ℕ)
    pub walks : fold (walked s.rules []) (at position h) words ≡ at position held
    pub faults : walk_fault s [] (at position h) words ≡ []
    pub holds : Holds before end held

  pub all_taken : HasAll → (before words : List (List ℕ)) (o end : Options) → Given before words o end → (position : ℕ) (h : Held) → Holds before o h
      → AllTaken words end position h
  unfolding walk_fault
  all_taken all before words o end no_more position h is = record { held = h; before = before; walks = refl; faults = refl; holds = is }
  all_taken all before words o end (one_more {words = rest} {name = name} {value = value} {next = next} sets unseen given) position h is =
      let one = taken all before o h is name value next sets unseen in
      let more = all_taken all (name ∷ before) rest next end given position (valued s.rules name value h) one.holds in
      record {
        held = more.held;
        before = more.before;
        walks = one.walks position rest ∙ more.walks;
        faults = one.faults position rest ∙ more.faults;
        holds = more.holds;
      }
