-- What is known of a writer's bytes after no line, and after one line more.
use Rattle.std.proofs.Common.{◌≡◌, refl, sym, ap, ◌∙◌, arith, ℕ, suc, ◌+◌, List, [], ◌++◌, append_assoc, Option, Some, None, codes}
use Rattle.std.proofs.lemmas.List.{append-nil}
use Rattle.std.specs.Io.KnownBytes.{Appends}
use Rattle.disassemble.specs.Lines.{first_lines, line_text, word_at}

appends_nothing : (u : Option (List ℕ)) → Appends u u []
appends_nothing None = tt
appends_nothing (Some xs) = sym (append-nil xs)

appends_then : (u v w : Option (List ℕ)) (a b : List ℕ) → Appends u v a → Appends v w b → Appends u w (a ++ b)
appends_then None v w a b x y = tt
appends_then (Some xs) None w a b x y = absurd x
appends_then (Some xs) (Some ys) None a b x y = y
appends_then (Some xs) (Some ys) (Some zs) a b x y = y ∙ ap (λ (t : List ℕ). t ++ b) x ∙ append_assoc xs a b

pub no_lines : (u : Option (List ℕ)) (bytes : List ℕ) → Appends u u (first_lines bytes 0)
unfolding first_lines
no_lines u bytes = appends_nothing u

first_lines_more : (bytes : List ℕ) (n : ℕ) → first_lines bytes (n + 1) ≡ first_lines bytes n ++ (line_text (word_at bytes n) ++ codes "\n")
unfolding first_lines
first_lines_more bytes n = let next : n + 1 ≡ suc n = omega arith in rw next refl

pub one_line_more
    : (u v w : Option (List ℕ)) (bytes : List ℕ) (n word : ℕ)
    → Appends u v (first_lines bytes n) → word ≡ word_at bytes n → Appends v w (line_text word ++ codes "\n")
    → Appends u w (first_lines bytes (n + 1))
one_line_more u v w bytes n word x same y =
    rw (first_lines_more bytes n) (appends_then u v w _ _ x (rw (sym same) y))
