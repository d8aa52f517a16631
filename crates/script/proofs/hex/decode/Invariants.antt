use Rattle.std.proofs.Common.{◌≡◌, ◌%◌, false, length}
use lib.Seq.{sets}
use Rattle.base.specs.Pick.{pick}
use Rattle.script.specs.Hex.{all_digits}
use Rattle.script.specs.Steps.{paired}
use Rattle.script.proofs.hex.decode.Given as goal

abbrev pub invariant-loop-i : goal.invariant-loop-i
invariant-loop-i l =
    let rest = l.i-iterator.iter.rest.now in
    record {
      stored : sets l.room l.i-iterator.count (paired rest) ≡ sets l.initial.room 0 (paired l.digits);
      all : pick l.all (all_digits rest) false ≡ all_digits l.digits;
      pairs : l.i-iterator.iter.size ≡ 2;
      even : length rest % 2 ≡ 0;
    }
