-- What loading a well-formed file answers, and what the ledger is then.
use Rattle.std.proofs.Common.{◌≡◌, ℕ, ◌≤◌, true, false, cond, eqb, ltb, List, length, Some, None, Option, refl, ap, ◌∙◌, ⊎_elim, arith}
use Rattle.std.proofs.lemmas.Bool.{cases_Bool, cond-false, cond-true, eq-eqb, le-ltb, lt-ltb, ne_eqb, not_from_false, not_from_true}
use Rattle.f5d.proofs.Files.{holds_read, malformed_read, out_of_turn_read}
use Rattle.f5d.proofs.Names.{name_read, name_right}
use Rattle.f5d.specs.Names.{comes_next, IsName, Name, read_name, RightName}
use Rattle.f5d.specs.Reading.{FileRead, holds, malformed, out_of_turn, read_file}
use Rattle.f5d.specs.Records.{Record}
use Rattle.vocabulary.specs.Answers.{Answer, granted, refused}
use Rattle.vocabulary.specs.Refusals.{plain}
use Rattle.retail.specs.Ledgers.{Ledger, lines_answer, load_answer, loaded, not_next, put_all, record_of, records_in}
use Rattle.retail.specs.LoadLaw.{LoadAnswers, LoadLaw, TurnOf}
use Rattle.retail.proofs.Lookups.{length-put_all, record_put_all}

module _ (l : Ledger) (name bytes : List ℕ) (n : Name) (rs : List Record) (named : read_name name ≡ Some n) (read : read_file bytes ≡ holds rs) where
  load_reads : load_answer l name bytes ≡ cond (not_next l.last n) (refused (plain 34)) (lines_answer l (holds rs))
  load_reads =
      ap (λ (o : Option Name). elim o as (λ _. Answer) [ None ↦ refused (plain 13) | Some m ↦ cond (not_next l.last m) (refused (plain 34)) (lines_answer l (read_file bytes)) ]) named
      ∙ ap (λ (f : FileRead). cond (not_next l.last n) (refused (plain 34)) (lines_answer l f)) read

  pub load_refused : not_next l.last n ≡ true → load_answer l name bytes ≡ refused (plain 34)
  load_refused e = load_reads ∙ cond-true (not_next l.last n) (refused (plain 34)) (lines_answer l (holds rs)) e

  pub load_granted : not_next l.last n ≡ false → length (put_all rs l.records) ≤ l.places → load_answer l name bytes ≡ granted
  load_granted e le =
      load_reads
      ∙ cond-false (not_next l.last n) (refused (plain 34)) (lines_answer l (holds rs)) e
      ∙ cond-false (ltb l.places (length (put_all rs l.records))) (refused (plain 35)) granted (le-ltb l.places (length (put_all rs l.records)) le)

  pub load_puts : (loaded l name bytes).records ≡ put_all rs l.records
  load_puts = ap (λ (f : FileRead). put_all (records_in f) l.records) read

-- ## The law

-- what a name and bytes are is what they read as
misnamed : (l : Ledger) (name bytes : List ℕ) (o : Option Name) → RightName name o → ((n : Name) → IsName n name → ⊥) →
    (elim o as (λ _. Answer) [ None ↦ refused (plain 13) | Some n ↦ cond (not_next l.last n) (refused (plain 34)) (lines_answer l (read_file bytes)) ]) ≡ refused (plain 13)
misnamed l name bytes None r f = refl
misnamed l name bytes (Some n) r f = absurd (f n r)

wrong_lines : (l : Ledger) (name bytes : List ℕ) (n : Name) (x : FileRead) → IsName n name → not_next l.last n ≡ false → read_file bytes ≡ x → load_answer l name bytes ≡ lines_answer l x
wrong_lines l name bytes n x i e r =
    ap (λ (o : Option Name). elim o as (λ _. Answer) [ None ↦ refused (plain 13) | Some m ↦ cond (not_next l.last m) (refused (plain 34)) (lines_answer l (read_file bytes)) ]) (name_read n name i)
    ∙ cond-false (not_next l.last n) (refused (plain 34)) (lines_answer l (read_file bytes)) e
    ∙ ap (lines_answer l) r

-- the test of the turn
its_turn : (o : Option Name) (n : Name) → TurnOf o n → not_next o n ≡ false
its_turn None n t = not_from_true (eqb n.version 0) (eq-eqb n.version 0 t)
its_turn (Some m) n t = not_from_true (comes_next m n) t

not_its_turn : (o : Option Name) (n : Name) → (TurnOf o n → ⊥) → not_next o n ≡ true
not_its_turn None n f = not_from_false (eqb n.version 0) (ne_eqb n.version 0 f)
not_its_turn (Some m) n f = not_from_false (comes_next m n) (⊎_elim (λ t. absurd (f t)) (λ e. e) (cases_Bool (comes_next m n)))

answers : (l : Ledger) (name bytes : List ℕ) → LoadAnswers l name bytes
answers l name bytes = record {
  misnamed = λ f. misnamed l name bytes (read_name name) (name_right name) f;
  not_its_turn = λ n i f.
      ap (λ (o : Option Name). elim o as (λ _. Answer) [ None ↦ refused (plain 13) | Some m ↦ cond (not_next l.last m) (refused (plain 34)) (lines_answer l (read_file bytes)) ]) (name_read n name i)
      ∙ cond-true (not_next l.last n) (refused (plain 34)) (lines_answer l (read_file bytes)) (not_its_turn l.last n f);
  malformed_line = λ n k f i t m. wrong_lines l name bytes n (malformed k f) i (its_turn l.last n t) (malformed_read bytes k f m);
  line_out_of_turn = λ n k i t m. wrong_lines l name bytes n (out_of_turn k) i (its_turn l.last n t) (out_of_turn_read bytes k m);
  too_few_places = λ n rs x few.
      wrong_lines l name bytes n (holds rs) x.named (its_turn l.last n x.turn) (holds_read bytes rs x.file)
      ∙ cond-true (ltb l.places (length (put_all rs l.records))) (refused (plain 35)) granted (lt-ltb l.places (length (put_all rs l.records)) (let e = length-put_all rs l.records x.file.turn in omega arith));
  loads = λ n rs x room. load_granted l name bytes n rs (name_read n name x.named) (holds_read bytes rs x.file) (its_turn l.last n x.turn) (let e = length-put_all rs l.records x.file.turn in omega arith);
}

pub load_law : LoadLaw
load_law l name bytes = (
  answers l name bytes,
  λ n rs x u h.
      ap (λ (z : List Record). record_of u h z) (load_puts l name bytes n rs (name_read n name x.named) (holds_read bytes rs x.file))
      ∙ record_put_all u h rs x.file.turn l.records,
)
