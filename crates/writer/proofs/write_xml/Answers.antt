use Rattle.writer.proofs.write_xml.Goals as goal

pub write_fitting-requires : goal.write_fitting-requires
write_fitting-requires c =
    record { fits = c.fits.ensures c.if-fits.true; room = c.requires }
