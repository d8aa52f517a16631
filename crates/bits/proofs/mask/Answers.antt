use Rattle.bits.proofs.MaskLaws.{mask-le, mask_is, mask_lt}
use Rattle.bits.proofs.mask.Goals as goal

pub overflow_sub-result : goal.overflow_sub-result
overflow_sub-result c = mask-le _ _ c.requires.0 c.requires.1

pub overflow_cast-result : goal.overflow_cast-result
overflow_cast-result c = record { fits = rw (mask_is _ _ c.requires.0 c.requires.1) (mask_lt c.args.a _ c.requires.1) }

pub returns : goal.returns
returns c = mask_is _ _ c.requires.0 c.requires.1
