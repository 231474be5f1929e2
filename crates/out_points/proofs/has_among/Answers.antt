use Rattle.std.proofs.Common.{rules}
use Rattle.out_points.proofs.EqualLaws.{points_are, seek_found, seek_more}
use Rattle.out_points.proofs.has_among.Goals as goal

pub returns-then-same_within : goal.returns-then-same_within
returns-then-same_within c = search (rules, seek_found)

pub loop-i-preserved : goal.loop-i-preserved
loop-i-preserved c = search (rules, seek_more)

pub returns-then-eq : goal.returns-then-eq
returns-then-eq c = seek_found c.loop-j.invariant c.loop-j-test.true c.point_of.ensures (points_are _ _ c.eq.ensures) c.if-eq.true

pub loop-j-preserved : goal.loop-j-preserved
loop-j-preserved c = seek_more c.loop-j.invariant c.loop-j-test.true c.point_of.ensures (points_are _ _ c.eq.ensures) c.if-eq.false
