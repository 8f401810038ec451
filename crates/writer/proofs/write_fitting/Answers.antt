use mathlib.Core.Path.{ap}
use native.Mathlib.Omega.{arith}
use Rattle.xml.specs.Document.{document}
use Rattle.xml.specs.Bytes.{bytes}
use Rattle.tags.specs.declared.Output.{Output}
use Rattle.writer.proofs.Whole.{documented, document-fits, all-written}
use Rattle.writer.proofs.write_fitting.Goals as goal

pub put_document-n-requires : goal.put_document-n-requires
put_document-n-requires c =
    let l = ap (λ (o : Output). o.limit.0) c.fresh-all.ensures in
    record { limit_in_bounds = (omega (arith, l), ap (λ (o : Output). o.unclosed) c.fresh-all.ensures); room = c.requires.room }

pub returns : goal.returns
returns c =
    record {
      answered = λ g t J W C.
          let a = c.args in
          all-written c.put_document-n.result.0 c.put_document-n.new.out a.out.now
          (bytes a.plan.due.ambiguous a.plan.due.mismatch (document g a.«record».now t))
          (document-fits a.plan W C c.requires.fits) (documented c.fresh-all.ensures c.put_document-n.ensures J W C);
    }
