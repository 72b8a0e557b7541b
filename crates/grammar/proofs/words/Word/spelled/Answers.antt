use Rattle.std.proofs.Common.{◌≡◌, codes, sym, ap, ◌∙◌, arith, rules}
use Rattle.std.proofs.lemmas.Slice.Eq.{text_from_reads}
use Rattle.grammar.specs.declared.words.Word.TheVariants.{Over, Weight}
use Rattle.grammar.specs.declared.words.Shape.TheVariants.{Dilate}
use Rattle.grammar.specs.Words.{word_of}
use Rattle.grammar.proofs.WordLetters.{unspelled, word_letters}
use Rattle.grammar.proofs.words.Word.spelled.Goals as goal

pub returns-in-dilate : goal.returns-in-dilate
returns-in-dilate c =
    let e : c.args.letters.now ≡ codes "dilate" = text_from_reads _ _ (omega arith) (search rules) in
    sym (ap word_of e ∙ word_letters (Over Dilate))

pub returns-in-weight : goal.returns-in-weight
returns-in-weight c =
    let e : c.args.letters.now ≡ codes "weight" = text_from_reads _ _ (omega arith) (search rules) in
    sym (ap word_of e ∙ word_letters Weight)

pub returns-in_default : goal.returns-in_default
returns-in_default c = unspelled c.args.letters.now (λ f. grind arith)

pub returns-in_default-6 : goal.returns-in_default-6
returns-in_default-6 c = unspelled c.args.letters.now (λ f. grind arith)

pub returns-in_default-13 : goal.returns-in_default-13
returns-in_default-13 c = unspelled c.args.letters.now (λ f. grind arith)

pub returns-in_default-26 : goal.returns-in_default-26
returns-in_default-26 c = unspelled c.args.letters.now (λ f. grind arith)

pub returns-in_default-32 : goal.returns-in_default-32
returns-in_default-32 c = unspelled c.args.letters.now (λ f. grind arith)

pub returns-in_default-37 : goal.returns-in_default-37
returns-in_default-37 c = unspelled c.args.letters.now (λ f. grind arith)

pub returns-in_default-38 : goal.returns-in_default-38
returns-in_default-38 c = unspelled c.args.letters.now (λ f. grind arith)
