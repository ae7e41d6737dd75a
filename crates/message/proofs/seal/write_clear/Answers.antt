use Rattle.message.proofs.Writes.{clear_written}
use Rattle.message.proofs.seal.write_clear.Goals as goal

pub returns : goal.returns
returns c =
    clear_written c.args.format c.args.header c.args.w c.args.content.now c.args.out.now _ _ _ c.requires.laid c.requires.room
    c.write.ensures c.write_number.ensures c.copy_from_slice.ensures.after
