use Rattle.buffa_bytes.specs.Delimited.{string_is_text}
use Rattle.buffa_codec.proofs.delimited.StringCodecSingularCodec.try_encode_one.Goals as goal

pub returns-clause-fits : goal.returns-clause-fits
returns-clause-fits c = string_is_text c.args.value.now
