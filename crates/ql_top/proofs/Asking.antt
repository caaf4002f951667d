-- What the words ask for, from what the parser makes of them.
use Rattle.std.proofs.Common.{◌≡◌, ℕ, List, [], ◌∷◌, Option, None, refl, sym, ◌∙◌, ap, subst, inl, inr}
use Rattle.std.specs.Prelude.{option_and_then, codes}
use Rattle.clap.specs.Faults.{fault_of}
use Rattle.clap.specs.Kinds.{Kinds, HasKind}
use Rattle.clap.specs.Simple.{HasMatchesOf, subcommand_of, subcommand_rows_of}
use Rattle.clap.specs.Values.{kind_of}
use Rattle.clap.specs.declared.error.Error.{Error}
use Rattle.clap.specs.declared.error.kind.ErrorKind.TheVariants as kinds
use Rattle.clap.specs.declared.parser.matches.ArgMatches.{ArgMatches}
use Rattle.ql_top.specs.CommandLine.{ql_app}
use Rattle.ql_top.specs.Words.{asked, command_named, unless_faulty}
use Rattle.ql_top.specs.declared.words.Command.{Command}

without_fault : (faults : Kinds) (command : Option Command) → faults ≡ [] → command ≡ unless_faulty faults command
without_fault faults command e = rw e refl

-- it has matches
pub asked_by : (words all : List (List ℕ)) (m : ArgMatches) (command : Option Command) → all ≡ codes "ql" ∷ words → fault_of ql_app all ≡ []
    → HasMatchesOf ql_app all m → command ≡ option_and_then (λ p. command_named p.0 p.1) (subcommand_rows_of m) → command ≡ asked words
unfolding asked
asked_by words all m command e f h v =
    let found = (h refl).1 ∙ ap (subcommand_of ql_app) e in
    v ∙ ap (option_and_then (λ p. command_named p.0 p.1)) found ∙ without_fault (fault_of ql_app (codes "ql" ∷ words)) _ (ap (fault_of ql_app) (sym e) ∙ f)

with_fault : (faults : Kinds) (error : Error) (command : Option Command) → (kind_of error ≡ kinds.OutOfMemory → Prim.⊥) → HasKind faults error
    → None ≡ unless_faulty faults command
with_fault [] error command known (inl h) = absurd (known h)
with_fault [] error command known (inr h) = absurd h
with_fault (k ∷ ks) error command known h = refl

-- it has a fault
pub nothing_asked : (words all : List (List ℕ)) (error : Error) → all ≡ codes "ql" ∷ words → (kind_of error ≡ kinds.OutOfMemory → Prim.⊥)
    → HasKind (fault_of ql_app all) error → None ≡ asked words
unfolding asked
nothing_asked words all error e known h =
    with_fault (fault_of ql_app (codes "ql" ∷ words)) error _ known (subst (λ x. HasKind (fault_of ql_app x) error) e h)
