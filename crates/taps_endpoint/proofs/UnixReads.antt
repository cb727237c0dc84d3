-- The machine for Unix addresses reads their grammar.
use Rattle.std.proofs.Common.{◌≡◌, ◌<◌, ◌≤◌, ℕ, ◌+◌, ◌==◌, List, [], ◌∷◌, ◌++◌, ◌&&◌, length, Some, None, true, cond, nat_le, nat_lt, refl, ◌∙◌, arith, append_assoc, length-append, lit≤}
use Rattle.std.proofs.lemmas.Option.{cond_some}
use Rattle.std.proofs.lemmas.Bool.{and_parts}
use Rattle.std.proofs.lemmas.Bool.Decides.{nat_tests}
use Rattle.std.proofs.lemmas.List.{append-nil}
use Rattle.taps_endpoint.specs.declared.unix.Unfinished.{Unfinished}
use Rattle.taps_endpoint.specs.declared.unix.Unfinished.TheVariants.{Start, U, Un, Uni, Unix, Path}
use Rattle.taps_endpoint.specs.Machines.{run, Accepts, Reads}
use Rattle.std.specs.List.{list_all}
use Rattle.std.proofs.lemmas.List.Folds.{list_all-append}
use Rattle.taps_endpoint.specs.UnixPaths.{is_path_byte}
use Rattle.taps_endpoint.specs.UnixTexts.{IsUnixText, step_unix, at_end_unix}
use Rattle.taps_endpoint.proofs.MachineRuns.{run_first}

path_on : (path : List ℕ) (b : ℕ) → length path < 107 → is_path_byte b ≡ true → step_unix (Path path) b ≡ Some (Path (path ++ b ∷ []))
unfolding step_unix
path_on path b lt visible = rw (let room : nat_lt (length path) 107 ≡ true = grind (arith, nat_tests) in room, visible) refl

path_runs : (path x : List ℕ) → length path + length x ≤ 107 → list_all is_path_byte x ≡ true → run step_unix (Path path) x ≡ Some (Path (path ++ x))
path_runs path [] le visible = rw (append-nil path) refl
path_runs path (b ∷ x) le visible =
    let (first, rest) = and_parts (is_path_byte b) (list_all is_path_byte x) visible in
    rw (path_on path b (omega arith) first) (path_runs (path ++ b ∷ []) x (simp length-append (omega arith)) rest ∙ rw (append_assoc path (b ∷ []) x) refl)

prefix_runs : (x : List ℕ) → run step_unix Start (117 ∷ 110 ∷ 105 ∷ 120 ∷ 58 ∷ x) ≡ run step_unix (Path []) x
unfolding step_unix
prefix_runs x = refl

accepts : (path text : List ℕ) → IsUnixText path text → Accepts step_unix at_end_unix Start text path
unfolding at_end_unix
accepts path text is =
    (Path path, rw is.spelled (prefix_runs path ∙ path_runs [] path (omega (arith, is.is_path.most)) is.is_path.visible), rw (let some : nat_le 1 (length path) ≡ true = grind (arith, nat_tests, is.is_path.some) in some) refl)

abbrev ReadSo : Unfinished → List ℕ → Type 0
ReadSo Start text = text ≡ []
ReadSo U text = text ≡ 117 ∷ []
ReadSo Un text = text ≡ 117 ∷ 110 ∷ []
ReadSo Uni text = text ≡ 117 ∷ 110 ∷ 105 ∷ []
ReadSo Unix text = text ≡ 117 ∷ 110 ∷ 105 ∷ 120 ∷ []
ReadSo (Path path) text = (length path ≤ 107) × (list_all is_path_byte path ≡ true) × (text ≡ 117 ∷ 110 ∷ 105 ∷ 120 ∷ 58 ∷ path)

visible_push : (path : List ℕ) (b : ℕ) → list_all is_path_byte path ≡ true → is_path_byte b ≡ true → list_all is_path_byte (path ++ b ∷ []) ≡ true
visible_push path b all one = rw (list_all-append is_path_byte path (b ∷ []), all, one) refl

-- a byte of the prefix
letter : (b want : ℕ) (next t : Unfinished) (text after : List ℕ) → ReadSo next after → after ≡ text ++ want ∷ [] → cond (b == want) (Some next) None ≡ Some t → ReadSo t (text ++ b ∷ [])
letter b want next t text after read is e =
    let (test, same) = cond_some (b == want) next t e in
    let found : b ≡ want = grind (arith, nat_tests) in
    rw (← same, found, ← is) read

next_read : (r t : Unfinished) (text : List ℕ) (b : ℕ) → ReadSo r text → step_unix r b ≡ Some t → ReadSo t (text ++ b ∷ [])
unfolding step_unix
next_read Start t text b read e = letter b 117 U t text (117 ∷ []) refl (rw read refl) e
next_read U t text b read e = letter b 110 Un t text (117 ∷ 110 ∷ []) refl (rw read refl) e
next_read Un t text b read e = letter b 105 Uni t text (117 ∷ 110 ∷ 105 ∷ []) refl (rw read refl) e
next_read Uni t text b read e = letter b 120 Unix t text (117 ∷ 110 ∷ 105 ∷ 120 ∷ []) refl (rw read refl) e
next_read Unix t text b read e = letter b 58 (Path []) t text (117 ∷ 110 ∷ 105 ∷ 120 ∷ 58 ∷ []) (lit≤ tt, refl, refl) (rw read refl) e
next_read (Path path) t text b (most, all, spelled) e =
    let (test, same) = cond_some (nat_lt (length path) 107 && is_path_byte b) (Path (path ++ b ∷ [])) t e in
    let (room, one) = and_parts (nat_lt (length path) 107) (is_path_byte b) test in
    rw (← same) (simp length-append (grind (arith, nat_tests)), visible_push path b all one, rw spelled refl)

run_read : (r t : Unfinished) (text x : List ℕ) → ReadSo r text → run step_unix r x ≡ Some t → ReadSo t (text ++ x)
run_read r t text [] read e = let same : r ≡ t = cc in rw (← same, append-nil text) read
run_read r t text (b ∷ x) read e =
    let (u, first, rest) = run_first step_unix r t b x e in
    rw (← append_assoc text (b ∷ []) x) (run_read u t (text ++ b ∷ []) x (next_read r u text b read first) rest)

end_read : (r : Unfinished) (path text : List ℕ) → ReadSo r text → at_end_unix r ≡ Some path → IsUnixText path text
unfolding at_end_unix
end_read Start path text read e = absurd (cc)
end_read U path text read e = absurd (cc)
end_read Un path text read e = absurd (cc)
end_read Uni path text read e = absurd (cc)
end_read Unix path text read e = absurd (cc)
end_read (Path p) path text (most, all, spelled) e =
    let (test, same) = cond_some (nat_le 1 (length p)) p path e in
    rw (← same) (record { is_path = record { some = grind (arith, nat_tests); most = most; visible = all }; spelled = spelled })

one_path : IsUnixText (97 ∷ []) (117 ∷ 110 ∷ 105 ∷ 120 ∷ 58 ∷ 97 ∷ [])
one_path = record { is_path = record { some = lit≤ tt; most = lit≤ tt; visible = refl }; spelled = refl }

CanEnd : List ℕ → Type 0
CanEnd text = (path : List ℕ) × (rest : List ℕ) × IsUnixText path (text ++ rest)

completes : (r : Unfinished) (text : List ℕ) → ReadSo r text → CanEnd text
unfolding CanEnd
completes Start text read = (97 ∷ [], 117 ∷ 110 ∷ 105 ∷ 120 ∷ 58 ∷ 97 ∷ [], rw read one_path)
completes U text read = (97 ∷ [], 110 ∷ 105 ∷ 120 ∷ 58 ∷ 97 ∷ [], rw read one_path)
completes Un text read = (97 ∷ [], 105 ∷ 120 ∷ 58 ∷ 97 ∷ [], rw read one_path)
completes Uni text read = (97 ∷ [], 120 ∷ 58 ∷ 97 ∷ [], rw read one_path)
completes Unix text read = (97 ∷ [], 58 ∷ 97 ∷ [], rw read one_path)
completes (Path []) text (most, all, spelled) = (97 ∷ [], 97 ∷ [], rw spelled one_path)
completes (Path (b ∷ path)) text (most, all, spelled) = (b ∷ path, [], rw (append-nil text, spelled) (record { is_path = record { some = omega arith; most = most; visible = all }; spelled = refl }))

pub reads_unix : Reads IsUnixText step_unix at_end_unix Start
unfolding CanEnd
reads_unix = record {
  accepts = accepts;
  sound = λ path text (r, runs, gives). end_read r path text (run_read Start r [] text refl runs) gives;
  completes = λ text r runs.
      let (path, rest, is) = completes r text (run_read Start r [] text refl runs) in
      (path, rest, accepts path (text ++ rest) is);
}
