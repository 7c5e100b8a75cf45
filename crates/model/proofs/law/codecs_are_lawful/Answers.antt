use Rattle.model.proofs.law.codecs_are_lawful.Goals as goal

pub returns : goal.returns
returns g c =
    let codec = c.args.codec.now in
    let laws = g.met.C.CoverageCodec in
    record { front = laws.front codec; within = laws.within codec; even = laws.even codec; short = laws.short codec; sound = laws.sound codec; listed = laws.listed codec; parts = laws.parts codec; spans = laws.spans codec }
