-- The tables of what a program names: these definitions serve proofs alone.
use Rattle.std.specs.Prelude.{◌≡◌, ℕ, List, Option, None, option_map, slice_index_or}
use Rattle.ql_expand.specs.Core.{Name, named, hidden}
use Rattle.ql_meaning.specs.Context.{Context, or_zero, place_of, word_at}
use Rattle.ql_code.specs.declared.code.FunEntry.{FunEntry}
use Rattle.ql_compile.specs.Compile.{Places, place_called, entry_of}
use Rattle.ql_world.specs.declared.word.Word.{Word}

-- For each number, the first function of that name.
abbrev pub HasFunctions : Context → Places → List (Option FunEntry) → Type 0
HasFunctions x places table = (n : ℕ) → slice_index_or table n None ≡ option_map (entry_of x) (place_called places n)

-- For each number, the place of the global of that name.
abbrev pub HasGlobals : List ℕ → List (Option ℕ) → Type 0
HasGlobals globals table = (n : ℕ) → slice_index_or table n None ≡ place_of globals n

-- For each offset, the word of the datum there.
abbrev pub HasWords : Context → List (ℕ × Word) → Type 0
HasWords x words = (at : ℕ) → word_at words at ≡ word_at x.quotes at

-- the place of a global
abbrev pub global_of : Context → Name → ℕ
global_of x (named l) = or_zero (place_of x.globals l)
global_of x (hidden n) = 0
