use Rattle.ql_proc.proofs.inside.pass.Goals as goal

pub returns-in-Drop : goal.returns-in-Drop
returns-in-Drop c = λ next. rw c.in-Drop.is (c.pass_drop.ensures next c.args.mark)

pub returns-in-Slide : goal.returns-in-Slide
returns-in-Slide c = λ next. rw c.in-Slide.is (c.pass_slide.ensures next c.args.mark)

pub returns-in-Touch : goal.returns-in-Touch
returns-in-Touch c = λ next. rw c.in-Touch.is (c.pass_touch.ensures next c.args.mark)
