-- The files behind the readers are those that are seen, and what is replied is what is written.
use Rattle.std.proofs.Common.{OnOk, rules, ◌≡◌, take}
use Rattle.std.specs.Prelude.{Result, Ok, Err, option_copied, option_map}
use Rattle.cli.proofs.Law.{stands, answered}
use Rattle.replies.proofs.answer.Goals as goal

on_ok : {A E P Q : Type 0} (r : Result A E) → (P → Q) → OnOk r P → OnOk r Q
on_ok (Ok x) f p = f p
on_ok (Err e) f p = tt

pub returns : goal.returns
returns g c =
    let shown : option_copied c.map.result ≡ option_map (λ n. take n c.load-first.new.buf) c.load-first.result = search rules in
    let read : option_copied c.map-2.result ≡ option_map (λ n. take n c.load-second.new.buf) c.load-second.result = search rules in
    on_ok c.write_all.result
    (answered
    (stands _ c.load-first.result c.load-first.new.buf (search rules) c.load-first.ensures.known)
    (stands _ c.load-second.result c.load-second.new.buf (search rules) c.load-second.ensures.known)
    (rw (shown, read) at c.reply-n.ensures))
    c.write_all.ensures.bytes
