use Rattle.aes.specs.Cipher.{sub_bytes, shift_rows}
use Rattle.aes.specs.Words.{block_octets}
use Rattle.aes.proofs.Rounds.{block_is}
use Rattle.aes.proofs.Block.shifted.Goals as goal

pub returns : goal.returns
unfolding sub_bytes shift_rows block_octets
returns c = block_is _ _ _ _ _ _ _ _ c.columns.ensures.a.1 c.columns.ensures.b.1 c.columns.ensures.c.1 c.columns.ensures.d.1
