use Rattle.std.proofs.Common.{◌≡◌, ◌<◌, ◌+◌, ℕ, List, [], ◌∷◌, ◌++◌, length, refl, sym, subst}
use Rattle.ql_base.specs.Names.{with_names}
use Rattle.ql_forms.specs.Spelled.{none}
use Rattle.ql_read.specs.TextFault.{IsRefused, unfinished}
use Rattle.ql_read.specs.Numbering.{ended}
use Rattle.ql_read.specs.Scan.{top, scan, start}
use Rattle.ql_read.specs.View.{nested, state_of}
use Rattle.ql_read.proofs.Naming.{goes_on_same}
use Rattle.ql_read.proofs.Taking.{leads_on, taken_one, byte_is_bad, bad_is_here, one_too_many, as_answered}
use Rattle.std.proofs.Math.Logic.{∥∥₁_map}
use Rattle.ql_read.proofs.reader.Reader.take.Goals as goal

pub returns-then-self-ge-LIMIT-clause-bad : goal.returns-then-self-ge-LIMIT-clause-bad
returns-then-self-ge-LIMIT-clause-bad c = λ kind at e p h.
    as_answered (λ k n. IsRefused (p ++ c.args.b ∷ []) k n) 7 1048576 kind at e (let (f, s) = one_too_many c.args.self.now p c.args.b h c.if-self-ge-LIMIT.true in f)

pub returns-in-Some-clause-bad : goal.returns-in-Some-clause-bad
returns-in-Some-clause-bad c = λ kind at e p h.
    let old = c.args.self.now in
    let after = λ (later : List (List ℕ)). state_of c.in-Ok.next (old.taken + 1) (nested later c.take_byte.new.nesting) in
    let later = with_names old.nesting.names (ended (state_of c.replace-token.result old.taken (top none)) c.args.b) in
    let is : after later ≡ scan start (p ++ c.args.b ∷ []) =
    leads_on old p c.args.b c.replace-token.result after (top none) later h c.replace-token.ensures.value c.in-Ok.ensures.ok (goes_on_same later) in
    as_answered (λ k n. IsRefused (p ++ c.args.b ∷ []) k n) c.number.result c.in-Some.at kind at e
    (subst (λ k. IsRefused (p ++ c.args.b ∷ []) k c.in-Some.at) (sym c.number.ensures)
    (byte_is_bad old (after later) p c.args.b c.in-Some.at c.in-Some.fault h c.if-self-ge-LIMIT.false is
    (sym (c.in-Some.ensures (old.taken + 1) (nested later c.take_byte.new.nesting)))))

pub returns-in-Some-clause-here : goal.returns-in-Some-clause-here
returns-in-Some-clause-here c = λ kind at e p h.
    let old = c.args.self.now in
    let after = λ (later : List (List ℕ)). state_of c.in-Ok.next (old.taken + 1) (nested later c.take_byte.new.nesting) in
    let later = with_names old.nesting.names (ended (state_of c.replace-token.result old.taken (top none)) c.args.b) in
    let is : after later ≡ scan start (p ++ c.args.b ∷ []) =
    leads_on old p c.args.b c.replace-token.result after (top none) later h c.replace-token.ensures.value c.in-Ok.ensures.ok (goes_on_same later) in
    as_answered (λ k n. (n ≡ length p) × (k < unfinished)) c.number.result c.in-Some.at kind at e
    (subst (λ k. (c.in-Some.at ≡ length p) × (k < unfinished)) (sym c.number.ensures)
    (bad_is_here old (after later) p c.args.b c.in-Some.at c.in-Some.fault h is
    (sym (c.in-Some.ensures (old.taken + 1) (nested later c.take_byte.new.nesting)))))

pub returns-in-None-clause-ok : goal.returns-in-None-clause-ok
returns-in-None-clause-ok c = λ p h.
    let old = c.args.self.now in
    taken_one old old.refused (old.taken + 1) c.in-Ok.next c.take_byte.new.nesting p c.args.b c.replace-token.result h
    h.reading refl c.if-self-ge-LIMIT.false c.replace-token.ensures.value c.in-Ok.ensures.ok c.in-Ok.ensures.names (λ k. sym (c.in-None.ensures (old.taken + 1) k))

pub invariant_of-self-in-None : goal.invariant_of-self-in-None
invariant_of-self-in-None c =
    let old = c.args.self.now in
    record {
      taken_some = ∥∥₁_map old.taken_some (λ some e.
          let (p, h) = some e in (
            p ++ c.args.b ∷ [],
            taken_one old old.refused (old.taken + 1) c.in-Ok.next c.take_byte.new.nesting p c.args.b c.replace-token.result h
                e refl c.if-self-ge-LIMIT.false c.replace-token.ensures.value c.in-Ok.ensures.ok c.in-Ok.ensures.names (λ k. sym (c.in-None.ensures (old.taken + 1) k)),
          ));
    }
