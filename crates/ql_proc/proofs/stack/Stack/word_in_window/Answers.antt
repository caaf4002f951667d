use Rattle.std.proofs.Common.{refl, sym, ap, ◌∙◌}
use Rattle.ql_code.specs.LocalPath.{topmost, whole_frame, word_in}
use Rattle.ql_proc.proofs.Nexts
use Rattle.ql_proc.proofs.stack.Stack.word_in_window.Goals as goal

pub returns-then-not-has_frame_in_window : goal.returns-then-not-has_frame_in_window
returns-then-not-has_frame_in_window c =
    rw (Nexts.none-is (whole_frame (topmost 64 c.args.self.now.items)) (sym c.has_frame_in_window.ensures ∙ c.if-not-has_frame_in_window.true)) refl

pub returns : goal.returns
returns c =
    rw (Nexts.frame-top 64 c.args.self.now.items (sym c.has_frame_in_window.ensures ∙ c.if-not-has_frame_in_window.false)) (c.word_in.ensures ∙ ap word_in c.local.ensures)
