-- What tokens hold.
use mathlib.Core.Path.{◌≡◌, refl, sym, ap, ◌∙◌}
use mathlib.Core.Bool.{Bool, false, ◌||◌}
use mathlib.Core.List.{List, [], ◌∷◌, ◌++◌, append-nil, append_assoc}
use Prim.Native.Nat.{ℕ, zero, suc, ◌+◌, ◌-◌, ◌%◌, ◌<◌}
use native.Mathlib.Omega.{arith}
use lib.Dec.{T as Holds}
use lib.ListN.{length, get_or, take, drop}
use lib.Seq.{drop-drop, drop_at}
use Rattle.text.specs.Lists.{Text, concat_map, begins}
use Rattle.tree.specs.Tree.{Mark, unmarked, included, attribute, deleted, string, hex, Terminal, literal, inclusion, exclusion, insertion, codes, Prolog, no-prolog, version, Grammar}
use Rattle.tree.specs.Tokens.{terminal_tokens, grammar_tokens, prolog_tokens, rule_tokens, body_tokens, Token, rule-head, rule_end, encode, counted, capped, mark_number}
use Rattle.plain.specs.Plain.{fits, width}
use Rattle.items.specs.Items.{Reads}
use Rattle.xml.specs.Document.{terminal_text, stretch}
use Rattle.tokens.proofs.Names.{held-count, held-name}
use Rattle.left_parse.proofs.Items.{named-holding, tokens-in, first-number, reads_first, mark-number}
use Rattle.markup.specs.declared.Piece.{Piece}
use Rattle.markup.specs.declared.Source.TheVariants.{Table, Record}
use Rattle.left_parse.specs.Steps.{Wide, Named}
use Rattle.markup.specs.Pieces.{Says, Pieced}
use Rattle.encode.proofs.Texts.{escape-capped}

-- a list begins a part of another
begin : (m : ℕ) (l xs ys : List ℕ) → take m l ≡ xs ++ ys → take (length xs) l ≡ xs
begin m l [] ys e = refl
begin zero l (x ∷ xs) ys e = absurd (let z : ◌≡◌ {A = ℕ} 0 1 = cc in omega arith)
begin (suc m) [] (x ∷ xs) ys e = absurd (let z : ◌≡◌ {A = ℕ} 0 1 = cc in omega arith)
begin (suc m) (y ∷ l) (x ∷ xs) ys e =
    let h : y ≡ x = cc in
    let t : take m l ≡ xs ++ ys = cc in
    rw (h, begin m l xs ys t)

pub token-text : (T : List ℕ) (j : ℕ) (xs ys : List ℕ) → drop j (take 12288 T) ≡ xs ++ ys → take (length xs) (drop j T) ≡ xs
token-text T j xs ys e = go j 12288 T e
  where
    none : (xs : List ℕ) → [] ≡ xs ++ ys → take (length xs) [] ≡ xs
    none [] e = refl
    none (x ∷ xs) e = absurd (let z : ◌≡◌ {A = ℕ} 0 1 = cc in omega arith)

    short : (l xs : List ℕ) → [] ≡ xs ++ ys → take (length xs) l ≡ xs
    short l [] e = refl
    short l (x ∷ xs) e = absurd (let z : ◌≡◌ {A = ℕ} 0 1 = cc in omega arith)

    go : (j m : ℕ) (l : List ℕ) → drop j (take m l) ≡ xs ++ ys → take (length xs) (drop j l) ≡ xs
    go zero m l e = begin m l xs ys e
    go (suc j) zero l e = short (drop (suc j) l) xs e
    go (suc j) (suc m) [] e = none xs e
    go (suc j) (suc m) (x ∷ l) e = go j m l e

pub named_count : {T : List ℕ} {token k : ℕ} {n : Text} → Named T token k n → get_or T (token + 1) 0 ≡ length n
named_count N = held-count (named-holding N)

pub named-text : {T : List ℕ} {token k : ℕ} {n : Text} → Named T token k n → take (length n) (drop (token + 2) T) ≡ n
named-text {T} {token} N = ap (λ (j : ℕ). take j (drop (token + 2) T)) (sym (named_count N)) ∙ held-name (named-holding N)

abbrev pub inserted : ℕ → ℕ → Piece
inserted cell n = record { from = Table cell; count = n }

abbrev pub taken : ℕ → ℕ → Piece
taken place n = record { from = Record (record { 0 = place }); count = n }

some_of : (t : Text) (n : ℕ) → length t ≡ n → (n ≡ 0 → ⊥) → 0 < length t
some_of t n e h = omega arith

none_of : (t : Text) → length t ≡ 0 → t ≡ []
none_of [] e = refl
none_of (c ∷ cs) e = absurd (omega arith)

mark-deleted : (m : Mark) (k : ℕ) → (k + mark_number m) % 4 ≡ 3 → k % 4 ≡ 0 → m ≡ deleted
mark-deleted unmarked k e z = absurd (omega arith)
mark-deleted included k e z = absurd (omega arith)
mark-deleted attribute k e z = absurd (omega arith)
mark-deleted deleted k e z = refl

module _ (T : List ℕ) (token place : ℕ) where
  -- an inserted string
  pub pieced-quoted : get_or T token 0 ≡ 29 → (n : ℕ) → n ≡ get_or T (token + 1) 0 → Pieced T token place (inserted (token + 2) n)
  unfolding first-number
  pieced-quoted e n ne = record { says = go }
    where
      go : (x : Terminal) (r : Text) → Reads T token (terminal_tokens x) → Holds (fits x (drop place r)) → Says T r (inserted (token + 2) n) (terminal_text x (stretch r place (place + width x)))
      go (literal m (string cs)) r R f = absurd (omega (arith, reads_first T token (literal m (string cs)) R, mark-number m))
      go (literal m (hex k)) r R f = absurd (omega (arith, reads_first T token (literal m (hex k)) R, mark-number m))
      go (inclusion m ms) r R f = absurd (omega (arith, reads_first T token (inclusion m ms) R, mark-number m))
      go (exclusion m ms) r R f = absurd (omega (arith, reads_first T token (exclusion m ms) R, mark-number m))
      go (insertion (hex k)) r R f = absurd (omega (arith, reads_first T token (insertion (hex k)) R))
      go (insertion (string cs)) r R f =
          let N : Named T token 29 cs = record { more = R.more; stands = R.stands ∙ ap (λ (t : Text). 29 ∷ length cs ∷ (t ++ R.more)) (append-nil cs) } in
          let c : n ≡ length cs = ne ∙ named_count N in
          let t : take n (drop (token + 2) T) ≡ cs = ap (λ (k : ℕ). take k (drop (token + 2) T)) c ∙ named-text N in
          record { same = λ v. rw t; tests = λ f h. rw t; none = λ z. none_of cs (sym c ∙ z); some = λ z. some_of cs n (sym c) z }

  -- an inserted character
  pub pieced-coded : get_or T token 0 ≡ 30 → Pieced T token place (inserted (token + 1) 1)
  unfolding first-number
  pieced-coded e = record { says = go }
    where
      go : (x : Terminal) (r : Text) → Reads T token (terminal_tokens x) → Holds (fits x (drop place r)) → Says T r (inserted (token + 1) 1) (terminal_text x (stretch r place (place + width x)))
      go (literal m (string cs)) r R f = absurd (omega (arith, reads_first T token (literal m (string cs)) R, mark-number m))
      go (literal m (hex k)) r R f = absurd (omega (arith, reads_first T token (literal m (hex k)) R, mark-number m))
      go (inclusion m ms) r R f = absurd (omega (arith, reads_first T token (inclusion m ms) R, mark-number m))
      go (exclusion m ms) r R f = absurd (omega (arith, reads_first T token (exclusion m ms) R, mark-number m))
      go (insertion (string cs)) r R f = absurd (omega (arith, reads_first T token (insertion (string cs)) R))
      go (insertion (hex k)) r R f =
          let t : take 1 (drop (token + 1) T) ≡ capped k ∷ [] = token-text T (token + 1) (capped k ∷ []) R.more (tokens-in T token 30 (capped k ∷ R.more) R.stands).2 in
          record { same = λ v. rw t (escape-capped v k); tests = λ f h. rw t (ap (λ (b : Bool). b || false) (h k)); none = λ z. absurd (omega arith); some = λ z. omega arith }

  -- deleted
  pub pieced-deleted : (get_or T token 0 ≡ 29 → ⊥) → (get_or T token 0 ≡ 30 → ⊥) → get_or T token 0 % 4 ≡ 3 → Pieced T token place (taken place 0)
  unfolding first-number
  pieced-deleted a b e = record { says = go }
    where
      none : (r t : Text) → t ≡ [] → Says T r (taken place 0) t
      none r t z = record { same = λ v. rw z; tests = λ f h. rw z; none = λ _. z; some = λ h. absurd (h refl) }

      go : (x : Terminal) (r : Text) → Reads T token (terminal_tokens x) → Holds (fits x (drop place r)) → Says T r (taken place 0) (terminal_text x (stretch r place (place + width x)))
      go (literal m (string cs)) r R f =
          none r (terminal_text (literal m (string cs)) (stretch r place (place + length cs)))
          (rw (mark-deleted m 4 (rw (reads_first T token (literal m (string cs)) R) at e) (omega arith)))
      go (literal m (hex k)) r R f =
          none r (terminal_text (literal m (hex k)) (stretch r place (place + 1)))
          (rw (mark-deleted m 8 (rw (reads_first T token (literal m (hex k)) R) at e) (omega arith)))
      go (inclusion m ms) r R f = none r (terminal_text (inclusion m ms) (stretch r place (place + 1))) (rw (mark-deleted m 12 (rw (reads_first T token (inclusion m ms) R) at e) (omega arith)))
      go (exclusion m ms) r R f = none r (terminal_text (exclusion m ms) (stretch r place (place + 1))) (rw (mark-deleted m 16 (rw (reads_first T token (exclusion m ms) R) at e) (omega arith)))
      go (insertion (string cs)) r R f = absurd (a (reads_first T token (insertion (string cs)) R))
      go (insertion (hex k)) r R f = absurd (b (reads_first T token (insertion (hex k)) R))

-- what a terminal takes of the record
one-of : (u : Text) (w : ℕ) → 0 < length u → (w ≡ 0 → ⊥) → 0 < length (take w u)
one-of [] w h z = absurd (omega arith)
one-of (c ∷ u) zero h z = absurd (z refl)
one-of (c ∷ u) (suc w) h z = omega arith

begins-some : (cs u : Text) → Holds (begins cs u) → (length cs ≡ 0 → ⊥) → 0 < length u
begins-some [] u f z = absurd (z refl)
begins-some (c ∷ cs) [] f z = absurd f
begins-some (c ∷ cs) (d ∷ u) f z = omega arith

fits-some : (x : Terminal) (u : Text) → Holds (fits x u) → (width x ≡ 0 → ⊥) → 0 < length u
fits-some (literal m k) u f z = begins-some (codes k) u f z
fits-some (inclusion m ms) [] f z = absurd f
fits-some (inclusion m ms) (d ∷ u) f z = omega arith
fits-some (exclusion m ms) [] f z = absurd f
fits-some (exclusion m ms) (d ∷ u) f z = omega arith
fits-some (insertion k) u f z = absurd (z refl)

module _ (T : List ℕ) (token place : ℕ) where
  -- of the record
  pub pieced-read : (get_or T token 0 ≡ 29 → ⊥) → (get_or T token 0 ≡ 30 → ⊥) → (get_or T token 0 % 4 ≡ 3 → ⊥) → (w : ℕ) → Wide T token w
      → Pieced T token place (taken place w)
  unfolding first-number
  pieced-read a b e w wide = record { says = go }
    where
      part : (x : Terminal) (r : Text) (t : Text) → w ≡ width x → Holds (fits x (drop place r)) → t ≡ stretch r place (place + width x) → Says T r (taken place w) t
      part x r t we f te =
          let z : place + width x - place ≡ w = omega arith in
          let s : t ≡ take w (drop place r) = te ∙ ap (λ (k : ℕ). take k (drop place r)) z in
          record {
            same = λ v. rw s;
            tests = λ f h. rw s;
            none = λ n. s ∙ ap (λ (k : ℕ). take k (drop place r)) n;
            some = λ n. rw s (one-of (drop place r) w (fits-some x (drop place r) f (λ q. n (we ∙ q))) n);
          }

      plain : (m : Mark) (k : ℕ) (t : Text) → k % 4 ≡ 0 → ((k + mark_number m) % 4 ≡ 3 → ⊥) → Rattle.xml.specs.Document.kept m t ≡ t
      plain unmarked k t z n = refl
      plain included k t z n = refl
      plain attribute k t z n = refl
      plain deleted k t z n = absurd (n (omega arith))

      go : (x : Terminal) (r : Text) → Reads T token (terminal_tokens x) → Holds (fits x (drop place r)) → Says T r (taken place w) (terminal_text x (stretch r place (place + width x)))
      go (literal m (string cs)) r R f = part (literal m (string cs)) r
          (terminal_text (literal m (string cs)) (stretch r place (place + length cs))) (wide.is (literal m (string cs)) R) f
          (plain m 4 (stretch r place (place + length cs)) (omega arith)
          (λ q. e (ap (λ (k : ℕ). k % 4) (reads_first T token (literal m (string cs)) R) ∙ q)))
      go (literal m (hex n)) r R f = part (literal m (hex n)) r (terminal_text (literal m (hex n)) (stretch r place (place + 1)))
          (wide.is (literal m (hex n)) R) f (plain m 8 (stretch r place (place + 1)) (omega arith)
          (λ q. e (ap (λ (k : ℕ). k % 4) (reads_first T token (literal m (hex n)) R) ∙ q)))
      go (inclusion m ms) r R f = part (inclusion m ms) r (terminal_text (inclusion m ms) (stretch r place (place + 1)))
          (wide.is (inclusion m ms) R) f (plain m 12 (stretch r place (place + 1)) (omega arith)
          (λ q. e (ap (λ (k : ℕ). k % 4) (reads_first T token (inclusion m ms) R) ∙ q)))
      go (exclusion m ms) r R f = part (exclusion m ms) r (terminal_text (exclusion m ms) (stretch r place (place + 1)))
          (wide.is (exclusion m ms) R) f (plain m 16 (stretch r place (place + 1)) (omega arith)
          (λ q. e (ap (λ (k : ℕ). k % 4) (reads_first T token (exclusion m ms) R) ∙ q)))
      go (insertion (string cs)) r R f = absurd (a (reads_first T token (insertion (string cs)) R))
      go (insertion (hex n)) r R f = absurd (b (reads_first T token (insertion (hex n)) R))

-- the root's token
module _ (T : List ℕ) where
  head_of : (p : Prolog) (m : Mark) (n : Text) (ts : List Token) (more : List ℕ) → drop 0 (take 12288 T) ≡ encode (prolog_tokens p ++ (rule-head m n ∷ ts)) ++ more
      → ((get_or T 0 0 ≡ 40 → ⊥) → Named T 0 (20 + mark_number m) n) × ((k : ℕ) → get_or T 0 0 ≡ 40 → k ≡ get_or T 1 0 → Named T (2 + k) (20 + mark_number m) n)
  head_of no-prolog m n ts more e = (
    λ h. record { more = encode ts ++ more; stands = e ∙ append_assoc ((20 + mark_number m) ∷ counted n) (encode ts) more },
    λ k h ke.
        let a = (tokens-in T 0 (20 + mark_number m) ((counted n ++ encode ts) ++ more) e).1 in
        let b = mark-number m in
        absurd (omega arith),
  )
  head_of (version v) m n ts more e =
      let us = encode (rule-head m n ∷ ts) in
      let a = tokens-in T 0 40 ((counted v ++ us) ++ more) e in
      let b = tokens-in T 1 (length v) ((v ++ us) ++ more) a.2 in (
        λ h. absurd (h a.1),
        λ k h ke.
            let z : 2 + k ≡ 2 + length v = ap (λ (x : ℕ). 2 + x) (ke ∙ b.1) in
            let d : drop (2 + length v) (take 12288 T) ≡ us ++ more = sym (drop-drop (length v) 2 (take 12288 T))
            ∙ ap (drop (length v)) (b.2 ∙ append_assoc v us more) ∙ drop_at v (us ++ more) (length v) refl in
            record { more = encode ts ++ more; stands = rw z (d ∙ append_assoc ((20 + mark_number m) ∷ counted n) (encode ts) more) },
      )

  pub head_plain : (g : Grammar) → Reads T 0 (grammar_tokens g) → (get_or T 0 0 ≡ 40 → ⊥) → Named T 0 (20 + mark_number g.root.mark) g.root.name
  head_plain g R h = (head_of g.prolog g.root.mark g.root.name ((body_tokens g.root.body ++ rule_end ∷ []) ++ concat_map rule_tokens g.others) R.more R.stands).0 h

  pub head-version : (g : Grammar) → Reads T 0 (grammar_tokens g) → (k : ℕ) → get_or T 0 0 ≡ 40 → k ≡ get_or T 1 0 → Named T (2 + k) (20 + mark_number g.root.mark) g.root.name
  head-version g R = (head_of g.prolog g.root.mark g.root.name ((body_tokens g.root.body ++ rule_end ∷ []) ++ concat_map rule_tokens g.others) R.more R.stands).1
