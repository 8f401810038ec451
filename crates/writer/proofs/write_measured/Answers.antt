use mathlib.Core.Path.{ap}
use native.Mathlib.Omega.{arith}
use Rattle.xml.specs.Document.{document}
use Rattle.xml.specs.Bytes.{bytes}
use Rattle.tags.specs.declared.Output.{Output}
use Rattle.writer.proofs.Whole.{documented, too_long, written, job-again, room-again}
use Rattle.writer.proofs.write_measured.Goals as goal

pub put_document-m-requires : goal.put_document-m-requires
put_document-m-requires c =
    let l = ap (λ (o : Output). o.limit.0) c.fresh-dry.ensures in
    record { limit_in_bounds = (omega (arith, l), ap (λ (o : Output). o.unclosed) c.fresh-dry.ensures); room = c.requires }

pub returns-then-m-room : goal.returns-then-m-room
returns-then-m-room c =
    record {
      answered = λ g t J W C.
          let a = c.args in
          too_long c.put_document-m.result.0 c.put_document-m.new.out a.out.now
          (bytes a.plan.due.ambiguous a.plan.due.mismatch (document g a.«record».now t))
          (documented c.fresh-dry.ensures c.put_document-m.ensures J W C) c.if-m-room.true;
    }

pub put_document-n-requires : goal.put_document-n-requires
put_document-n-requires c =
    let k = c.put_document-m.ensures.kept in
    let l = ap (λ (o : Output). o.limit.0) c.fresh-wet.ensures in
    record { limit_in_bounds = (omega (arith, l), ap (λ (o : Output). o.unclosed) c.fresh-wet.ensures); room = (room-again k c.requires.0, job-again k c.requires.1) }

pub returns : goal.returns
returns c =
    record {
      answered = λ g t J W C.
          let a = c.args in
          let k = c.put_document-m.ensures.kept in
          written c.put_document-m.result.0 c.put_document-n.result.0
          c.put_document-m.new.out c.put_document-n.new.out
          a.out.now (bytes a.plan.due.ambiguous a.plan.due.mismatch (document g a.«record».now t))
          (documented c.fresh-dry.ensures c.put_document-m.ensures J W C) c.if-m-room.false
          (documented c.fresh-wet.ensures c.put_document-n.ensures (rw k J) W C);
    }
