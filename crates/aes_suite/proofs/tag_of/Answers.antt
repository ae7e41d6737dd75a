use Rattle.aes.specs.Words.{words_of}
use Rattle.aes_suite.proofs.Meanings.{tag_is}
use Rattle.aes_suite.proofs.tag_of.Goals as goal

pub returns : goal.returns
returns c =
    tag_is c.args.keys c.args.inputs c.args.message.now (words_of c.new-schedule.result) c.start_of.result c.to_be_bytes-head.result
    c.write_number.new.out c.cmac-block.result c.new-schedule.ensures c.start_of.ensures c.to_be_bytes-head.ensures c.cmac-block.ensures
    c.write_number.ensures
