-- Words that say plainly what they ask for.
use Rattle.std.specs.Prelude.{◌≡◌, ◌≤◌, ℕ, List, [], ◌∷◌, ◌++◌, codes, false}
use Rattle.std.specs.List.{list_any}
use Rattle.std.specs.Str.{bytes_eq}
use Rattle.std.specs.Str.Parse.{IsNumeral, digits_value}
use Rattle.ql_base.specs.Limits.{usual}
use Rattle.ql_base.specs.declared.limits.Policy.TheVariants.{Old, New, Turn}
use Rattle.ql_top.specs.declared.words.Command.{Command}
use Rattle.ql_top.specs.declared.words.Command.TheVariants as commands
use Rattle.ql_top.specs.declared.words.Command.TheVariants.{Run, Show, Check, Gen, Trial, Replay, Span}
use Rattle.ql_top.specs.declared.words.Options.{Options}

-- the text is digits alone, which write this number, and it is one from least to most
pub record IsNumber (least most : ℕ) (text : List ℕ) (n : ℕ) : Type 0 where
  pub numeral : IsNumeral 10 text
  pub value : digits_value 10 text ≡ n
  pub low : least ≤ n
  pub high : n ≤ most

-- the options of a run where no word names one
abbrev pub usual_options : Options
usual_options = record { workers = 1; limits = usual }

-- With this value, the option of this name changes these options to those.
pub data Sets : (name value : List ℕ) → Options → Options → Type 0 where
  workers : {text : List ℕ} {n : ℕ} {o : Options} → IsNumber 1 16 text n → Sets (codes "workers") text o (record o { workers = n })
  budget : {text : List ℕ} {n : ℕ} {o : Options} → IsNumber 1 20000000 text n
      → Sets (codes "budget") text o (record o { limits = record o.limits { budget = n } })
  cells : {text : List ℕ} {n : ℕ} {o : Options} → IsNumber 1 4000000 text n
      → Sets (codes "cells") text o (record o { limits = record o.limits { cells = n } })
  quantum : {text : List ℕ} {n : ℕ} {o : Options} → IsNumber 1 4096 text n
      → Sets (codes "quantum") text o (record o { limits = record o.limits { quantum = n } })
  old : {o : Options} → Sets (codes "policy") (codes "old") o (record o { limits = record o.limits { policy = Old } })
  new : {o : Options} → Sets (codes "policy") (codes "new") o (record o { limits = record o.limits { policy = New } })
  turn : {o : Options} → Sets (codes "policy") (codes "turn") o (record o { limits = record o.limits { policy = Turn } })

-- Words that give options, each by `--name` and its value, in any order, from some options to others. None is of those named
-- before, and none stands twice.
pub data Given : (before : List (List ℕ)) → (words : List (List ℕ)) → Options → Options → Type 0 where
  no_more : {before : List (List ℕ)} {o : Options} → Given before [] o o
  one_more : {before words : List (List ℕ)} {name value : List ℕ} {o next end : Options} → Sets name value o next
      → list_any (λ other. bytes_eq other name) before ≡ false → Given (name ∷ before) words next end
      → Given before ((codes "--" ++ name) ∷ value ∷ words) o end

-- The words are the name of a command, then its numbers, then any of its options.
pub data IsPlain : List (List ℕ) → Command → Type 0 where
  check : IsPlain (codes "check" ∷ []) Check
  show : IsPlain (codes "show" ∷ []) Show
  list : IsPlain (codes "list" ∷ []) commands.List
  run : {words : List (List ℕ)} {options : Options} → Given [] words usual_options options → IsPlain (codes "run" ∷ words) (Run options)
  gen : {first second : List ℕ} {seed size : ℕ} → IsNumber 0 18446744073709551615 first seed → IsNumber 1 3000 second size
      → IsPlain (codes "gen" ∷ first ∷ second ∷ []) (Gen seed size)
  trial : {first second : List ℕ} {seed size : ℕ} {words : List (List ℕ)} {options : Options} → IsNumber 0 18446744073709551615 first seed
      → IsNumber 1 3000 second size → Given [] words usual_options options
      → IsPlain (codes "trial" ∷ first ∷ second ∷ words) (Trial seed size options)
  replay : IsPlain (codes "replay" ∷ []) Replay
  span : IsPlain (codes "span" ∷ []) Span
