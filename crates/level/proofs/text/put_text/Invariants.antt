use Rattle.std.proofs.Common.{◌≡◌, ◌+◌, ◌<◌, ◌++◌, length, drop, decimal}
use Rattle.level.specs.Write.{hundredths_text}
use Rattle.level.proofs.text.put_text.Given as goal

-- what stands behind the feet that are left
abbrev pub invariant-loop-feet : goal.invariant-loop-feet
invariant-loop-feet l =
    record {
      behind : decimal l.feet ++ drop (l.at + 1) l.out ≡ hundredths_text l.hundredths;
      within : l.at < length l.out;
    }

abbrev pub decreases-loop-feet : goal.decreases-loop-feet
decreases-loop-feet l = l.feet
