use Rattle.reader.specs.Answers.{prolog_code, rule_code}
use Rattle.reader.proofs.RulesHead.{room_after}
use Rattle.reader.proofs.PrologParts.{grammar-bad, grammar-room, grammar-no-prolog, grammar-no-rule, grammar-no-rules, grammar-got}
use Rattle.reader.proofs.read_grammar.Goals as goal

pub returns-in_err-u : goal.returns-in_err-u
returns-in_err-u c =
    let args = c.args in
    rw c.from_residual.ensures (grammar-bad args.text.now c.in_err-u.ensures)

pub prolog-requires : goal.prolog-requires
prolog-requires c =
    let pre = c.requires in
    let k = c.in_ok-u.ensures in
    (grammar-room _ _ k _ (pre))

pub returns-in_err-v : goal.returns-in_err-v
returns-in_err-v c =
    let k = c.in_ok-u.ensures in
    rw c.from_residual-in_err-v.ensures (grammar-no-prolog _ _ k c.in_err-v.ensures)

pub rule-requires : goal.rule-requires
rule-requires c =
    let pre = c.requires in
    let k = c.in_ok-u.ensures in
    let g = c.in_ok-v.ensures in
    (room_after _ prolog_code _ _ _ _ 0 _ _ _ (grammar-room _ _ k _ (pre)) c.prolog.auto.out g)

pub returns-in_err-w : goal.returns-in_err-w
returns-in_err-w c =
    let k = c.in_ok-u.ensures in
    let g = c.in_ok-v.ensures in
    rw c.from_residual-in_err-w.ensures (grammar-no-rule _ _ k _ _ _ _ g c.in_err-w.ensures)

pub rules-requires : goal.rules-requires
rules-requires c =
    let pre = c.requires in
    let k = c.in_ok-u.ensures in
    let g = c.in_ok-v.ensures in
    let r = c.in_ok-w.ensures in
    room_after _ rule_code _ _ _ _ _ _ _ _ (room_after _ prolog_code _ _ _ _ 0 _ _ _ (grammar-room _ _ k _ (pre)) c.prolog.auto.out g)
    c.rule.auto.out r

pub returns-in_err-e : goal.returns-in_err-e
returns-in_err-e c =
    let k = c.in_ok-u.ensures in
    let g = c.in_ok-v.ensures in
    let r = c.in_ok-w.ensures in
    rw c.from_residual-in_err-e.ensures (grammar-no-rules _ _ k _ _ _ _ g _ _ _ r c.in_err-e.ensures)

pub returns : goal.returns
returns c =
    let k = c.in_ok-u.ensures in
    let g = c.in_ok-v.ensures in
    let r = c.in_ok-w.ensures in
    grammar-got _ _ k _ _ _ _ g _ _ _ r _ _ _ c.in_ok-e.ensures
