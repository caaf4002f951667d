use Rattle.std.proofs.Common.{sym, ap, ◌∙◌, suc, add-one, arith, List, map}
use Rattle.std.proofs.lemmas.List.{length-map}
use Rattle.ql_world.specs.World.{with_thread}
use Rattle.ql_world.specs.Idle.{killed_among}
use Rattle.ql_code.specs.Machine.{Point, code_machine}
use Rattle.ql_proc.specs.Points.{point_of}
use Rattle.ql_host.specs.declared.shared.Shared.{Shared}
use Rattle.ql_host.specs.World.{world_of}
use Rattle.ql_host.specs.Killing.{with_killed, killed_count}
use Rattle.ql_host.proofs.Killing.{room_for, room_after, as_many_after, same_kills, all_killed_is}
use Rattle.ql_host.proofs.kill.kill_within.Goals as goal

pub kill_if_within-requires-clause-room : goal.kill_if_within-requires-clause-room
kill_if_within-requires-clause-room c =
    let old : Shared = c.args.shared.now in
    let now : Shared = c.kills.shared in
    let i = c.kills.invariant in
    let e = ap (λ (h : Shared). h.tree.catches) i.same in
    rw (add-one, e) (room_for old.tree.catches c.args.c c.args.owner c.kills.at now.tree.persons old.history.spare now.history.spare (killed_count old c.args.c c.args.owner) i.left c.requires.room)

pub kills-preserved : goal.kills-preserved
kills-preserved c =
    let old : Shared = c.args.shared.now in
    let now : Shared = c.kills.shared in
    let new : Shared = c.kill_if_within.new.shared in
    let at = c.kills.at in
    let i = c.kills.invariant in
    let k = c.kill_if_within.ensures in
    let e = ap (λ (h : Shared). h.tree.catches) i.same in
    let us = rw (add-one, e) at k.persons in
    record {
      world = λ code t.
          let m = code_machine code in
          let kills = rw add-one at (k.world code t) in
          rw add-one
          (kills
          ∙ same_kills m c.args.spared (world_of now (map point_of c.kills.procs)) (killed_among m (world_of old (map point_of c.args.procs.now)) c.args.c c.args.owner at) c.args.c c.args.owner (suc at) (i.world code) t);
      same = k.same ∙ ap (λ h. with_killed h new) i.same;
      persons = as_many_after old.tree.catches c.args.c c.args.owner at now.tree.persons new.tree.persons us ∙ i.persons;
      spared = k.spared ∙ i.spared;
      within = omega (arith, c.kills-test.true, c.count-count.ensures);
      count = k.count ∙ i.count;
      left = rw add-one
          (room_after old.tree.catches c.args.c c.args.owner at now.tree.persons new.tree.persons old.history.spare now.history.spare new.history.spare (killed_count old c.args.c c.args.owner) us i.left (rw (add-one, e) at k.spare));
    }

pub returns-clause-world : goal.returns-clause-world
returns-clause-world c code t =
    let old : Shared = c.args.shared.now in
    let ts : List Point = map point_of c.args.procs.now in
    let i = c.kills.invariant in
    i.world code t
    ∙ ap (λ w. with_thread w c.args.spared t)
    (all_killed_is (code_machine code) old ts c.args.c c.args.owner c.kills.at (sym (length-map c.args.procs.now point_of ∙ c.requires.threads)) (omega (arith, i.within, c.kills-test.false, c.count-count.ensures)))
