-- Worked programs, each with what is told of it along one schedule. The proofs compute it.
use Rattle.std.specs.Prelude.{◌≡◌, ℕ, true, false, pos, negsuc, List, [], ◌∷◌, ◌++◌, Option, Some, option_map, replicate, codes}
use Rattle.ql_base.specs.declared.limits.Limits.{Limits}
use Rattle.ql_base.specs.declared.limits.Policy.TheVariants.{Old, New, Turn}
use Rattle.ql_base.specs.Limits.{usual}
use Rattle.ql_base.specs.Names.{reserved}
use Rattle.ql_forms.specs.Form as form
use Rattle.ql_forms.specs.Form.{proper, dotted, atom, list, none, more}
use Rattle.ql_expand.specs.Core.{named, binder, core, constant, variable, setq, conditional, progn, binding, primitive, print, call, funcall, lambda, qlet, qlambda, catch, qcatch, throw, protect, defvar, no_cores, and_core, no_bounds, and_bound, function, Program, program}
use Rattle.ql_world.specs.Text.{journal_text}
use Rattle.ql_world.specs.Run.{Story}

pub record Worked : Type 0 where
  pub program : Program
  pub names : List (List ℕ)
  pub limits : Limits
  pub schedule : List ℕ
  pub output : List ℕ
  -- its text
  pub journal : List ℕ

abbrev pub texts : Story → List ℕ × List ℕ
texts s = (s.output, journal_text s.journal)

-- just this is told
abbrev pub IsTold : Worked → Option Story → Type 0
IsTold w story = option_map texts story ≡ Some (w.output, w.journal)

-- (print (+ 1 2))
abbrev pub sum_printed : Worked
sum_printed = record {
  program = program ([]) ([]) (and_core (core 0 (print (core 7 (primitive 29 (and_core (core 10 (constant (atom 10 (form.integer (pos 1))))) (and_core (core 12 (constant (atom 12 (form.integer (pos 2))))) no_cores)))))) no_cores);
  names = reserved ++ [];
  limits = usual;
  schedule = replicate 5 1;
  output = codes "3\n";
  journal = codes "qlisp 2 2000000 1000000 65535 16777216\nturn 1 5\nexit 1 0\nend 1 ok\nstop done\n";
}

-- no form at all
abbrev pub nothing_at_all : Worked
nothing_at_all = record {
  program = program ([]) ([]) no_cores;
  names = reserved ++ [];
  limits = usual;
  schedule = replicate 1 1;
  output = codes "";
  journal = codes "qlisp 2 2000000 1000000 65535 16777216\nturn 1 1\nexit 1 0\nend 1 ok\nstop done\n";
}

-- (print '(a . (b . (c . 4))))
abbrev pub quoted_list : Worked
quoted_list = record {
  program = program ([]) ([]) (and_core (core 0 (print (core 7 (constant (list 8 (more (atom 9 (form.symbol 46)) (more (atom 14 (form.symbol 47)) (more (atom 19 (form.symbol 48)) none))) (dotted (form.integer (pos 4)))))))) no_cores);
  names = reserved ++ codes "a" ∷ codes "b" ∷ codes "c" ∷ [];
  limits = usual;
  schedule = replicate 3 1;
  output = codes "(a b c . 4)\n";
  journal = codes "qlisp 2 2000000 1000000 65535 16777216\nturn 1 3\nexit 1 0\nend 1 ok\nstop done\n";
}

-- (print (+ 9223372036854775807 1))
abbrev pub overflow : Worked
overflow = record {
  program = program ([]) ([]) (and_core (core 0 (print (core 7 (primitive 29 (and_core (core 10 (constant (atom 10 (form.integer (pos 9223372036854775807))))) (and_core (core 30 (constant (atom 30 (form.integer (pos 1))))) no_cores)))))) no_cores);
  names = reserved ++ [];
  limits = usual;
  schedule = replicate 3 1;
  output = codes "";
  journal = codes "qlisp 2 2000000 1000000 65535 16777216\nturn 1 3\nstop error overflow 1 7\n";
}

-- (defun ev (n) (if (= n 0) t (od (- n 1)))) (defun od (n) (if (= n 0) nil (ev (- n 1)))) (print (ev 10))
abbrev pub even_odd : Worked
even_odd = record {
  program = program ((function 0 46 7 ((binder 11 (named 47)) ∷ []) (core 14 (conditional (core 18 (primitive 34 (and_core (core 21 (variable (named 47))) (and_core (core 23 (constant (atom 23 (form.integer (pos 0))))) no_cores)))) (core 26 (constant (atom 26 (form.symbol 1)))) (core 28 (call 48 29 (and_core (core 32 (primitive 30 (and_core (core 35 (variable (named 47))) (and_core (core 37 (constant (atom 37 (form.integer (pos 1))))) no_cores)))) no_cores)))))) ∷ (function 43 48 50 ((binder 54 (named 47)) ∷ []) (core 57 (conditional (core 61 (primitive 34 (and_core (core 64 (variable (named 47))) (and_core (core 66 (constant (atom 66 (form.integer (pos 0))))) no_cores)))) (core 69 (constant (atom 69 (form.symbol 0)))) (core 73 (call 46 74 (and_core (core 77 (primitive 30 (and_core (core 80 (variable (named 47))) (and_core (core 82 (constant (atom 82 (form.integer (pos 1))))) no_cores)))) no_cores)))))) ∷ []) ([]) (and_core (core 88 (print (core 95 (call 46 96 (and_core (core 99 (constant (atom 99 (form.integer (pos 10))))) no_cores))))) no_cores);
  names = reserved ++ codes "ev" ∷ codes "n" ∷ codes "od" ∷ [];
  limits = usual;
  schedule = replicate 100 1;
  output = codes "t\n";
  journal = codes "qlisp 2 2000000 1000000 65535 16777216\nturn 1 100\nexit 1 0\nend 1 ok\nstop done\n";
}

-- (defvar g nil) (print (let ((x 1) (y 2)) (setq g (lambda (n) (setq x (+ x n)) (cons x y))) (funcall g 5) (funcall g 6)))
abbrev pub closures_share : Worked
closures_share = record {
  program = program ([]) (46 ∷ []) (and_core (core 0 (defvar 46 8 (core 10 (constant (atom 10 (form.symbol 0)))))) (and_core (core 15 (print (core 22 (binding (and_bound (binder 29 (named 47)) (core 31 (constant (atom 31 (form.integer (pos 1))))) (and_bound (binder 35 (named 48)) (core 37 (constant (atom 37 (form.integer (pos 2))))) no_bounds)) (core 22 (progn (and_core (core 41 (setq (named 46) 47 (core 49 (lambda ((binder 58 (named 49)) ∷ []) (core 49 (progn (and_core (core 61 (setq (named 47) 67 (core 69 (primitive 29 (and_core (core 72 (variable (named 47))) (and_core (core 74 (variable (named 49))) no_cores)))))) (and_core (core 78 (primitive 19 (and_core (core 84 (variable (named 47))) (and_core (core 86 (variable (named 48))) no_cores)))) no_cores)))))))) (and_core (core 91 (funcall true (core 100 (variable (named 46))) (and_core (core 102 (constant (atom 102 (form.integer (pos 5))))) no_cores))) (and_core (core 105 (funcall false (core 114 (variable (named 46))) (and_core (core 116 (constant (atom 116 (form.integer (pos 6))))) no_cores))) no_cores))))))))) no_cores));
  names = reserved ++ codes "g" ∷ codes "x" ∷ codes "y" ∷ codes "n" ∷ [];
  limits = usual;
  schedule = replicate 31 1;
  output = codes "(12 . 2)\n";
  journal = codes "qlisp 2 2000000 1000000 65535 16777216\nturn 1 31\nexit 1 0\nend 1 ok\nstop done\n";
}

-- (defun fib (n) (if (< n 2) n (+ (fib (- n 1)) (fib (- n 2))))) (print (qlet t ((a (fib 2)) (b (fib 3))) (+ a b)))
abbrev pub small_fib : Worked
small_fib = record {
  program = program ((function 0 46 7 ((binder 12 (named 47)) ∷ []) (core 15 (conditional (core 19 (primitive 35 (and_core (core 22 (variable (named 47))) (and_core (core 24 (constant (atom 24 (form.integer (pos 2))))) no_cores)))) (core 27 (variable (named 47))) (core 29 (primitive 29 (and_core (core 32 (call 46 33 (and_core (core 37 (primitive 30 (and_core (core 40 (variable (named 47))) (and_core (core 42 (constant (atom 42 (form.integer (pos 1))))) no_cores)))) no_cores))) (and_core (core 46 (call 46 47 (and_core (core 51 (primitive 30 (and_core (core 54 (variable (named 47))) (and_core (core 56 (constant (atom 56 (form.integer (pos 2))))) no_cores)))) no_cores))) no_cores))))))) ∷ []) ([]) (and_core (core 63 (print (core 70 (qlet (core 76 (constant (atom 76 (form.symbol 1)))) (and_bound (binder 80 (named 48)) (core 82 (call 46 83 (and_core (core 87 (constant (atom 87 (form.integer (pos 2))))) no_cores))) (and_bound (binder 92 (named 49)) (core 94 (call 46 95 (and_core (core 99 (constant (atom 99 (form.integer (pos 3))))) no_cores))) no_bounds)) (core 104 (primitive 29 (and_core (core 107 (variable (named 48))) (and_core (core 109 (variable (named 49))) no_cores)))))))) no_cores);
  names = reserved ++ codes "fib" ∷ codes "n" ∷ codes "a" ∷ codes "b" ∷ [];
  limits = record usual { quantum = 7 };
  schedule = replicate 2 1 ++ replicate 7 2 ++ replicate 7 3 ++ replicate 7 2 ++ replicate 7 3 ++ replicate 7 2 ++ replicate 7 3 ++ replicate 7 2 ++ replicate 7 3 ++ replicate 1 2 ++ replicate 7 3 ++ replicate 1 1 ++ replicate 14 3 ++ replicate 7 1;
  output = codes "3\n";
  journal = codes "qlisp 2 2000000 1000000 65535 16777216\nturn 1 2\nspawn 1 2 0 let\nspawn 1 3 0 let\nturn 2 7\nturn 3 7\nturn 2 7\nturn 3 7\nturn 2 7\nturn 3 7\nturn 2 7\nturn 3 7\nturn 2 1\nend 2 ok 1\nturn 3 7\nturn 1 1\nturn 3 14\nend 3 ok 2\nturn 1 7\nexit 1 0\nend 1 ok\nstop done\n";
}

-- (qlet 'eager ((x (throw 'no 1))) (print 2))
abbrev pub eager_throw : Worked
eager_throw = record {
  program = program ([]) ([]) (and_core (core 0 (qlet (core 6 (constant (atom 7 (form.symbol 3)))) (and_bound (binder 15 (named 46)) (core 17 (throw (core 24 (constant (atom 25 (form.symbol 47)))) (core 28 (constant (atom 28 (form.integer (pos 1))))))) no_bounds) (core 33 (print (core 40 (constant (atom 40 (form.integer (pos 2))))))))) no_cores);
  names = reserved ++ codes "x" ∷ codes "no" ∷ [];
  limits = usual;
  schedule = replicate 2 1 ++ replicate 3 1 ++ replicate 3 2;
  output = codes "2\n";
  journal = codes "qlisp 2 2000000 1000000 65535 16777216\nturn 1 2\nspawn 1 2 0 let\nturn 1 3\nturn 2 3\nstop error nocatch 2 17\n";
}

-- (qlet 'eager ((x (throw 'no 1))) (print 2))
abbrev pub eager_throw_new : Worked
eager_throw_new = record {
  program = program ([]) ([]) (and_core (core 0 (qlet (core 6 (constant (atom 7 (form.symbol 3)))) (and_bound (binder 15 (named 46)) (core 17 (throw (core 24 (constant (atom 25 (form.symbol 47)))) (core 28 (constant (atom 28 (form.integer (pos 1))))))) no_bounds) (core 33 (print (core 40 (constant (atom 40 (form.integer (pos 2))))))))) no_cores);
  names = reserved ++ codes "x" ∷ codes "no" ∷ [];
  limits = record usual { quantum = 2; policy = New };
  schedule = replicate 2 1 ++ replicate 3 2;
  output = codes "";
  journal = codes "qlisp 2 2000000 1000000 65535 16777216\nturn 1 2\nspawn 1 2 0 let\nturn 2 3\nstop error nocatch 2 17\n";
}

-- (defun spin () (spin)) (print (catch 'k (qlet t ((a (spin)) (b (throw 'k 7)) (c 5)) a)))
abbrev pub siblings : Worked
siblings = record {
  program = program ((function 0 46 7 ([]) (core 15 (call 46 16 no_cores))) ∷ []) ([]) (and_core (core 23 (print (core 30 (catch (core 37 (constant (atom 38 (form.symbol 47)))) (core 40 (qlet (core 46 (constant (atom 46 (form.symbol 1)))) (and_bound (binder 50 (named 48)) (core 52 (call 46 53 no_cores)) (and_bound (binder 61 (named 49)) (core 63 (throw (core 70 (constant (atom 71 (form.symbol 47)))) (core 73 (constant (atom 73 (form.integer (pos 7))))))) (and_bound (binder 78 (named 50)) (core 80 (constant (atom 80 (form.integer (pos 5))))) no_bounds))) (core 84 (variable (named 48))))))))) no_cores);
  names = reserved ++ codes "spin" ∷ codes "k" ∷ codes "a" ∷ codes "b" ∷ codes "c" ∷ [];
  limits = record usual { quantum = 8 };
  schedule = replicate 2 1 ++ replicate 2 1 ++ replicate 8 2 ++ replicate 3 3 ++ replicate 1 3 ++ replicate 1 4 ++ replicate 1 1 ++ replicate 1 1 ++ replicate 1 2 ++ replicate 1 1;
  output = codes "7\n";
  journal = codes "qlisp 2 2000000 1000000 65535 16777216\nturn 1 2\nopen 1 1 0\nturn 1 2\nspawn 1 2 1 let\nspawn 1 3 1 let\nspawn 1 4 1 let\nturn 2 8\nturn 3 3\nthrow 3 1\nkill 1 2\nkill 1 3\nkill 1 4\nturn 3 1\nend 3 killed\nturn 4 1\nend 4 killed\nturn 1 1\nland 1 1\nturn 1 1\nturn 2 1\nend 2 killed\nturn 1 1\nexit 1 0\nend 1 ok\nstop done\n";
}

-- (defun spin () (spin)) (print (catch 'a (qlet t ((x (catch 'b (qlet t ((y (spin))) y))) (z (throw 'a 9))) x)))
abbrev pub grandchildren : Worked
grandchildren = record {
  program = program ((function 0 46 7 ([]) (core 15 (call 46 16 no_cores))) ∷ []) ([]) (and_core (core 23 (print (core 30 (catch (core 37 (constant (atom 38 (form.symbol 47)))) (core 40 (qlet (core 46 (constant (atom 46 (form.symbol 1)))) (and_bound (binder 50 (named 48)) (core 52 (catch (core 59 (constant (atom 60 (form.symbol 49)))) (core 62 (qlet (core 68 (constant (atom 68 (form.symbol 1)))) (and_bound (binder 72 (named 50)) (core 74 (call 46 75 no_cores)) no_bounds) (core 83 (variable (named 50))))))) (and_bound (binder 89 (named 51)) (core 91 (throw (core 98 (constant (atom 99 (form.symbol 47)))) (core 101 (constant (atom 101 (form.integer (pos 9))))))) no_bounds)) (core 106 (variable (named 48))))))))) no_cores);
  names = reserved ++ codes "spin" ∷ codes "a" ∷ codes "x" ∷ codes "b" ∷ codes "y" ∷ codes "z" ∷ [];
  limits = usual;
  schedule = replicate 2 1 ++ replicate 2 1 ++ replicate 2 2 ++ replicate 2 2 ++ replicate 3 3 ++ replicate 1 3 ++ replicate 1 4 ++ replicate 1 1 ++ replicate 1 1 ++ replicate 2 2 ++ replicate 1 1;
  output = codes "9\n";
  journal = codes "qlisp 2 2000000 1000000 65535 16777216\nturn 1 2\nopen 1 1 0\nturn 1 2\nspawn 1 2 1 let\nspawn 1 3 1 let\nturn 2 2\nopen 2 2 1\nturn 2 2\nspawn 2 4 2 let\nturn 3 3\nthrow 3 1\nkill 1 2\nkill 1 3\nkill 1 4\nturn 3 1\nend 3 killed\nturn 4 1\nend 4 killed\nturn 1 1\nland 1 1\nturn 1 1\nturn 2 2\nend 2 killed\nturn 1 1\nexit 1 0\nend 1 ok\nstop done\n";
}

-- (print (catch 'k (qlet 'eager ((x 5)) x)))
abbrev pub exit_kills : Worked
exit_kills = record {
  program = program ([]) ([]) (and_core (core 0 (print (core 7 (catch (core 14 (constant (atom 15 (form.symbol 46)))) (core 17 (qlet (core 23 (constant (atom 24 (form.symbol 3)))) (and_bound (binder 32 (named 47)) (core 34 (constant (atom 34 (form.integer (pos 5))))) no_bounds) (core 38 (variable (named 47))))))))) no_cores);
  names = reserved ++ codes "k" ∷ codes "x" ∷ [];
  limits = usual;
  schedule = replicate 2 1 ++ replicate 2 1 ++ replicate 3 1 ++ replicate 1 1;
  output = codes "";
  journal = codes "qlisp 2 2000000 1000000 65535 16777216\nturn 1 2\nopen 1 1 0\nturn 1 2\nspawn 1 2 1 let\nturn 1 3\nexit 1 1\nkill 1 2\nturn 1 1\nstop error deadfuture 1 0\n";
}

-- (defun spin () (spin)) (print (catch 'k (qlet t ((a (unwind-protect (spin) (print 'cleanup))) (b (throw 'k 1))) a)))
abbrev pub killed_cleanup : Worked
killed_cleanup = record {
  program = program ((function 0 46 7 ([]) (core 15 (call 46 16 no_cores))) ∷ []) ([]) (and_core (core 23 (print (core 30 (catch (core 37 (constant (atom 38 (form.symbol 47)))) (core 40 (qlet (core 46 (constant (atom 46 (form.symbol 1)))) (and_bound (binder 50 (named 48)) (core 52 (protect (core 68 (call 46 69 no_cores)) (core 75 (print (core 82 (constant (atom 83 (form.symbol 49)))))))) (and_bound (binder 95 (named 50)) (core 97 (throw (core 104 (constant (atom 105 (form.symbol 47)))) (core 107 (constant (atom 107 (form.integer (pos 1))))))) no_bounds)) (core 112 (variable (named 48))))))))) no_cores);
  names = reserved ++ codes "spin" ∷ codes "k" ∷ codes "a" ∷ codes "cleanup" ∷ codes "b" ∷ [];
  limits = record usual { quantum = 5 };
  schedule = replicate 2 1 ++ replicate 2 1 ++ replicate 1 2 ++ replicate 4 2 ++ replicate 3 3 ++ replicate 1 3 ++ replicate 1 1 ++ replicate 1 1 ++ replicate 1 2 ++ replicate 3 2 ++ replicate 1 2 ++ replicate 1 1;
  output = codes "1\ncleanup\n";
  journal = codes "qlisp 2 2000000 1000000 65535 16777216\nturn 1 2\nopen 1 1 0\nturn 1 2\nspawn 1 2 1 let\nspawn 1 3 1 let\nturn 2 1\nprotect 2 1\nturn 2 4\nturn 3 3\nthrow 3 1\nkill 1 2\nkill 1 3\nturn 3 1\nend 3 killed\nturn 1 1\nland 1 1\nturn 1 1\nturn 2 1\nbegin 2 1\nturn 2 3\nfinish 2 1\nturn 2 1\nend 2 killed\nturn 1 1\nexit 1 0\nend 1 ok\nstop done\n";
}

-- (print (catch 'o (qlet t ((p (catch 'i (unwind-protect (throw 'i 1) (print 'cleanup)))) (r (throw 'o (+ 1 1)))) p)))
abbrev pub outer_throw : Worked
outer_throw = record {
  program = program ([]) ([]) (and_core (core 0 (print (core 7 (catch (core 14 (constant (atom 15 (form.symbol 46)))) (core 17 (qlet (core 23 (constant (atom 23 (form.symbol 1)))) (and_bound (binder 27 (named 47)) (core 29 (catch (core 36 (constant (atom 37 (form.symbol 48)))) (core 39 (protect (core 55 (throw (core 62 (constant (atom 63 (form.symbol 48)))) (core 65 (constant (atom 65 (form.integer (pos 1))))))) (core 68 (print (core 75 (constant (atom 76 (form.symbol 49)))))))))) (and_bound (binder 89 (named 50)) (core 91 (throw (core 98 (constant (atom 99 (form.symbol 46)))) (core 101 (primitive 29 (and_core (core 104 (constant (atom 104 (form.integer (pos 1))))) (and_core (core 106 (constant (atom 106 (form.integer (pos 1))))) no_cores)))))) no_bounds)) (core 112 (variable (named 47))))))))) no_cores);
  names = reserved ++ codes "o" ∷ codes "p" ∷ codes "i" ∷ codes "cleanup" ∷ codes "r" ∷ [];
  limits = record usual { quantum = 4 };
  schedule = replicate 2 1 ++ replicate 2 1 ++ replicate 2 2 ++ replicate 1 2 ++ replicate 1 2 ++ replicate 4 3 ++ replicate 2 2 ++ replicate 1 2 ++ replicate 1 2 ++ replicate 1 3 ++ replicate 1 3 ++ replicate 1 1 ++ replicate 1 1 ++ replicate 2 2 ++ replicate 2 2 ++ replicate 1 1;
  output = codes "2\ncleanup\n";
  journal = codes "qlisp 2 2000000 1000000 65535 16777216\nturn 1 2\nopen 1 1 0\nturn 1 2\nspawn 1 2 1 let\nspawn 1 3 1 let\nturn 2 2\nopen 2 2 1\nturn 2 1\nprotect 2 1\nturn 2 1\nturn 3 4\nturn 2 2\nthrow 2 2\nturn 2 1\nbegin 2 1\nturn 2 1\nturn 3 1\nthrow 3 1\nkill 1 2\nkill 1 3\nturn 3 1\nend 3 killed\nturn 1 1\nland 1 1\nturn 1 1\nturn 2 2\nfinish 2 1\nturn 2 2\nend 2 killed\nturn 1 1\nexit 1 0\nend 1 ok\nstop done\n";
}

-- (print (let ((s 0)) (qcatch 'q (let ((c (qlambda t (n) (setq s (+ s n))))) (funcall c 1) (funcall c 2) (funcall c 3) nil)) s))
abbrev pub queued_calls : Worked
queued_calls = record {
  program = program ([]) ([]) (and_core (core 0 (print (core 7 (binding (and_bound (binder 14 (named 46)) (core 16 (constant (atom 16 (form.integer (pos 0))))) no_bounds) (core 7 (progn (and_core (core 20 (qcatch (core 28 (constant (atom 29 (form.symbol 47)))) (core 31 (binding (and_bound (binder 38 (named 48)) (core 40 (qlambda (core 49 (constant (atom 49 (form.symbol 1)))) ((binder 52 (named 49)) ∷ []) (core 55 (setq (named 46) 61 (core 63 (primitive 29 (and_core (core 66 (variable (named 46))) (and_core (core 68 (variable (named 49))) no_cores)))))))) no_bounds) (core 31 (progn (and_core (core 75 (funcall true (core 84 (variable (named 48))) (and_core (core 86 (constant (atom 86 (form.integer (pos 1))))) no_cores))) (and_core (core 89 (funcall true (core 98 (variable (named 48))) (and_core (core 100 (constant (atom 100 (form.integer (pos 2))))) no_cores))) (and_core (core 103 (funcall true (core 112 (variable (named 48))) (and_core (core 114 (constant (atom 114 (form.integer (pos 3))))) no_cores))) (and_core (core 117 (constant (atom 117 (form.symbol 0)))) no_cores)))))))))) (and_core (core 123 (variable (named 46))) no_cores)))))))) no_cores);
  names = reserved ++ codes "s" ∷ codes "q" ∷ codes "c" ∷ codes "n" ∷ [];
  limits = usual;
  schedule = replicate 4 1 ++ replicate 2 1 ++ replicate 4 1 ++ replicate 3 1 ++ replicate 3 1 ++ replicate 1 1 ++ replicate 1 2 ++ replicate 5 2 ++ replicate 1 2 ++ replicate 5 2 ++ replicate 1 2 ++ replicate 5 2 ++ replicate 1 1 ++ replicate 2 1 ++ replicate 1 2 ++ replicate 1 1;
  output = codes "6\n";
  journal = codes "qlisp 2 2000000 1000000 65535 16777216\nturn 1 4\nopen 1 1 0\nturn 1 2\nspawn 1 2 1 call 1\nturn 1 4\nsend 1 1 1\nturn 1 3\nsend 1 1 2\nturn 1 3\nsend 1 1 3\nturn 1 1\nturn 2 1\ntake 2 1 1\nturn 2 5\nreply 2 1 1 1\nturn 2 1\ntake 2 1 2\nturn 2 5\nreply 2 1 2 3\nturn 2 1\ntake 2 1 3\nturn 2 5\nreply 2 1 3 6\nturn 1 1\nexit 1 1\nkill 1 2\nturn 1 2\nturn 2 1\nend 2 killed\nturn 1 1\nexit 1 0\nend 1 ok\nstop done\n";
}

-- (defvar c nil) (setq c (qlambda t (n) (funcall c n))) (funcall c 1)
abbrev pub deadlock : Worked
deadlock = record {
  program = program ([]) (46 ∷ []) (and_core (core 0 (defvar 46 8 (core 10 (constant (atom 10 (form.symbol 0)))))) (and_core (core 15 (setq (named 46) 21 (core 23 (qlambda (core 32 (constant (atom 32 (form.symbol 1)))) ((binder 35 (named 47)) ∷ []) (core 38 (funcall false (core 47 (variable (named 46))) (and_core (core 49 (variable (named 47))) no_cores))))))) (and_core (core 54 (funcall false (core 63 (variable (named 46))) (and_core (core 65 (constant (atom 65 (form.integer (pos 1))))) no_cores))) no_cores)));
  names = reserved ++ codes "c" ∷ codes "n" ∷ [];
  limits = usual;
  schedule = replicate 4 1 ++ replicate 4 1 ++ replicate 1 2 ++ replicate 3 2;
  output = codes "";
  journal = codes "qlisp 2 2000000 1000000 65535 16777216\nturn 1 4\nspawn 1 2 0 call 1\nturn 1 4\nsend 1 1 1\nturn 2 1\ntake 2 1 1\nturn 2 3\nsend 2 1 2\nstop deadlock\n";
}

-- (funcall (catch 'k (qlambda t (n) n)) 1)
abbrev pub dead_closure : Worked
dead_closure = record {
  program = program ([]) ([]) (and_core (core 0 (funcall false (core 9 (catch (core 16 (constant (atom 17 (form.symbol 46)))) (core 19 (qlambda (core 28 (constant (atom 28 (form.symbol 1)))) ((binder 31 (named 47)) ∷ []) (core 34 (variable (named 47))))))) (and_core (core 38 (constant (atom 38 (form.integer (pos 1))))) no_cores))) no_cores);
  names = reserved ++ codes "k" ∷ codes "n" ∷ [];
  limits = usual;
  schedule = replicate 2 1 ++ replicate 2 1 ++ replicate 1 1 ++ replicate 2 1;
  output = codes "";
  journal = codes "qlisp 2 2000000 1000000 65535 16777216\nturn 1 2\nopen 1 1 0\nturn 1 2\nspawn 1 2 1 call 1\nturn 1 1\nexit 1 1\nkill 1 2\nturn 1 2\nstop error deadclosure 1 0\n";
}

-- (let ((c (qlambda 'eager (x) (print 'ready) (print x)))) (funcall c 5))
abbrev pub eager_closure : Worked
eager_closure = record {
  program = program ([]) ([]) (and_core (core 0 (binding (and_bound (binder 7 (named 46)) (core 9 (qlambda (core 18 (constant (atom 19 (form.symbol 3)))) ((binder 26 (named 47)) ∷ []) (core 9 (progn (and_core (core 29 (print (core 36 (constant (atom 37 (form.symbol 48)))))) (and_core (core 44 (print (core 51 (variable (named 47))))) no_cores)))))) no_bounds) (core 57 (funcall false (core 66 (variable (named 46))) (and_core (core 68 (constant (atom 68 (form.integer (pos 5))))) no_cores))))) no_cores);
  names = reserved ++ codes "c" ∷ codes "x" ∷ codes "ready" ∷ [];
  limits = usual;
  schedule = replicate 2 1 ++ replicate 4 1 ++ replicate 6 2 ++ replicate 3 2 ++ replicate 2 1 ++ replicate 1 2;
  output = codes "ready\n5\nready\n";
  journal = codes "qlisp 2 2000000 1000000 65535 16777216\nturn 1 2\nspawn 1 2 0 eager 1\nturn 1 4\nsend 1 1 1\ntake 2 1 1\nturn 2 6\nreply 2 1 1 5\nturn 2 3\nturn 1 2\nexit 1 0\nkill 0 2\nend 1 ok\nturn 2 1\nend 2 killed\nstop done\n";
}

-- (print (+ 1 2))
abbrev pub budget_spent : Worked
budget_spent = record {
  program = program ([]) ([]) (and_core (core 0 (print (core 7 (primitive 29 (and_core (core 10 (constant (atom 10 (form.integer (pos 1))))) (and_core (core 12 (constant (atom 12 (form.integer (pos 2))))) no_cores)))))) no_cores);
  names = reserved ++ [];
  limits = record usual { budget = 4 };
  schedule = replicate 4 1;
  output = codes "3\n";
  journal = codes "qlisp 2 4 1000000 65535 16777216\nturn 1 4\nstop budget\n";
}

-- (print (cons 1 2))
abbrev pub one_cell : Worked
one_cell = record {
  program = program ([]) ([]) (and_core (core 0 (print (core 7 (primitive 19 (and_core (core 13 (constant (atom 13 (form.integer (pos 1))))) (and_core (core 15 (constant (atom 15 (form.integer (pos 2))))) no_cores)))))) no_cores);
  names = reserved ++ [];
  limits = record usual { cells = 1 };
  schedule = replicate 5 1;
  output = codes "(1 . 2)\n";
  journal = codes "qlisp 2 2000000 1 65535 16777216\nturn 1 5\nexit 1 0\nend 1 ok\nstop done\n";
}

-- (print (cons 1 (cons 2 nil)))
abbrev pub no_cells : Worked
no_cells = record {
  program = program ([]) ([]) (and_core (core 0 (print (core 7 (primitive 19 (and_core (core 13 (constant (atom 13 (form.integer (pos 1))))) (and_core (core 15 (primitive 19 (and_core (core 21 (constant (atom 21 (form.integer (pos 2))))) (and_core (core 23 (constant (atom 23 (form.symbol 0)))) no_cores)))) no_cores)))))) no_cores);
  names = reserved ++ [];
  limits = record usual { cells = 1 };
  schedule = replicate 5 1;
  output = codes "";
  journal = codes "qlisp 2 2000000 1 65535 16777216\nturn 1 5\nstop limit cells\n";
}

-- (defun prod (l) (cond ((null l) 1) ((consp l) (qlet t ((a (prod (car l))) (b (prod (cdr l)))) (* a b))) ((= l 0) (throw 'zero 0)) (t l))) (print (catch 'zero (prod '((2) 0))))
abbrev pub product : Worked
product = record {
  program = program ((function 0 46 7 ((binder 13 (named 47)) ∷ []) (core 16 (conditional (core 23 (primitive 23 (and_core (core 29 (variable (named 47))) no_cores))) (core 32 (constant (atom 32 (form.integer (pos 1))))) (core 16 (conditional (core 36 (primitive 26 (and_core (core 43 (variable (named 47))) no_cores))) (core 46 (qlet (core 52 (constant (atom 52 (form.symbol 1)))) (and_bound (binder 56 (named 48)) (core 58 (call 46 59 (and_core (core 64 (primitive 20 (and_core (core 69 (variable (named 47))) no_cores))) no_cores))) (and_bound (binder 75 (named 49)) (core 77 (call 46 78 (and_core (core 83 (primitive 21 (and_core (core 88 (variable (named 47))) no_cores))) no_cores))) no_bounds)) (core 94 (primitive 31 (and_core (core 97 (variable (named 48))) (and_core (core 99 (variable (named 49))) no_cores)))))) (core 16 (conditional (core 105 (primitive 34 (and_core (core 108 (variable (named 47))) (and_core (core 110 (constant (atom 110 (form.integer (pos 0))))) no_cores)))) (core 113 (throw (core 120 (constant (atom 121 (form.symbol 50)))) (core 126 (constant (atom 126 (form.integer (pos 0))))))) (core 16 (conditional (core 131 (constant (atom 131 (form.symbol 1)))) (core 133 (variable (named 47))) (core 16 (constant (atom 16 (form.symbol 0))))))))))))) ∷ []) ([]) (and_core (core 138 (print (core 145 (catch (core 152 (constant (atom 153 (form.symbol 50)))) (core 158 (call 46 159 (and_core (core 164 (constant (list 165 (more (list 166 (more (atom 167 (form.integer (pos 2))) none) proper) (more (atom 170 (form.integer (pos 0))) none)) proper))) no_cores))))))) no_cores);
  names = reserved ++ codes "prod" ∷ codes "l" ∷ codes "a" ∷ codes "b" ∷ codes "zero" ∷ [];
  limits = usual;
  schedule = replicate 2 1 ++ replicate 10 1 ++ replicate 11 2 ++ replicate 11 3 ++ replicate 18 4 ++ replicate 9 5 ++ replicate 16 6 ++ replicate 1 6 ++ replicate 1 7 ++ replicate 1 1 ++ replicate 1 1 ++ replicate 1 2 ++ replicate 1 3 ++ replicate 1 1;
  output = codes "0\n";
  journal = codes "qlisp 2 2000000 1000000 65535 16777216\nturn 1 2\nopen 1 1 0\nturn 1 10\nspawn 1 2 1 let\nspawn 1 3 1 let\nturn 2 11\nspawn 2 4 1 let\nspawn 2 5 1 let\nturn 3 11\nspawn 3 6 1 let\nspawn 3 7 1 let\nturn 4 18\nend 4 ok 2\nturn 5 9\nend 5 ok 1\nturn 6 16\nthrow 6 1\nkill 1 2\nkill 1 3\nkill 1 6\nkill 1 7\nturn 6 1\nend 6 killed\nturn 7 1\nend 7 killed\nturn 1 1\nland 1 1\nturn 1 1\nturn 2 1\nend 2 killed\nturn 3 1\nend 3 killed\nturn 1 1\nexit 1 0\nend 1 ok\nstop done\n";
}

-- (unwind-protect 1 (throw 'k 2))
abbrev pub throw_in_cleanup : Worked
throw_in_cleanup = record {
  program = program ([]) ([]) (and_core (core 0 (protect (core 16 (constant (atom 16 (form.integer (pos 1))))) (core 18 (throw (core 25 (constant (atom 26 (form.symbol 46)))) (core 28 (constant (atom 28 (form.integer (pos 2))))))))) no_cores);
  names = reserved ++ codes "k" ∷ [];
  limits = usual;
  schedule = replicate 1 1 ++ replicate 2 1 ++ replicate 3 1;
  output = codes "";
  journal = codes "qlisp 2 2000000 1000000 65535 16777216\nturn 1 1\nprotect 1 1\nturn 1 2\nbegin 1 1\nturn 1 3\nstop error nocatch 1 18\n";
}

-- (print (unwind-protect 1 (catch 'a (unwind-protect (throw 'a 2) (print 3)))))
abbrev pub catch_in_cleanup : Worked
catch_in_cleanup = record {
  program = program ([]) ([]) (and_core (core 0 (print (core 7 (protect (core 23 (constant (atom 23 (form.integer (pos 1))))) (core 25 (catch (core 32 (constant (atom 33 (form.symbol 46)))) (core 35 (protect (core 51 (throw (core 58 (constant (atom 59 (form.symbol 46)))) (core 61 (constant (atom 61 (form.integer (pos 2))))))) (core 64 (print (core 71 (constant (atom 71 (form.integer (pos 3))))))))))))))) no_cores);
  names = reserved ++ codes "a" ∷ [];
  limits = usual;
  schedule = replicate 1 1 ++ replicate 2 1 ++ replicate 2 1 ++ replicate 1 1 ++ replicate 3 1 ++ replicate 1 1 ++ replicate 3 1 ++ replicate 1 1 ++ replicate 1 1 ++ replicate 2 1;
  output = codes "3\n1\n";
  journal = codes "qlisp 2 2000000 1000000 65535 16777216\nturn 1 1\nprotect 1 1\nturn 1 2\nbegin 1 1\nturn 1 2\nopen 1 1 0\nturn 1 1\nprotect 1 2\nturn 1 3\nthrow 1 1\nturn 1 1\nbegin 1 2\nturn 1 3\nfinish 1 2\nturn 1 1\nland 1 1\nturn 1 1\nfinish 1 1\nturn 1 2\nexit 1 0\nend 1 ok\nstop done\n";
}

-- (let ((c (qlambda t (n) n))) (unwind-protect 1 (funcall c 2)))
abbrev pub send_in_cleanup : Worked
send_in_cleanup = record {
  program = program ([]) ([]) (and_core (core 0 (binding (and_bound (binder 7 (named 46)) (core 9 (qlambda (core 18 (constant (atom 18 (form.symbol 1)))) ((binder 21 (named 47)) ∷ []) (core 24 (variable (named 47))))) no_bounds) (core 29 (protect (core 45 (constant (atom 45 (form.integer (pos 1))))) (core 47 (funcall false (core 56 (variable (named 46))) (and_core (core 58 (constant (atom 58 (form.integer (pos 2))))) no_cores))))))) no_cores);
  names = reserved ++ codes "c" ∷ codes "n" ∷ [];
  limits = usual;
  schedule = replicate 2 1 ++ replicate 2 1 ++ replicate 2 1 ++ replicate 3 1;
  output = codes "";
  journal = codes "qlisp 2 2000000 1000000 65535 16777216\nturn 1 2\nspawn 1 2 0 call 1\nturn 1 2\nprotect 1 1\nturn 1 2\nbegin 1 1\nturn 1 3\nstop error incleanup 1 47\n";
}

-- (let ((c (qlambda 'eager (x) (unwind-protect 1 (print x))))) 2)
abbrev pub idle_in_cleanup : Worked
idle_in_cleanup = record {
  program = program ([]) ([]) (and_core (core 0 (binding (and_bound (binder 7 (named 46)) (core 9 (qlambda (core 18 (constant (atom 19 (form.symbol 3)))) ((binder 26 (named 47)) ∷ []) (core 29 (protect (core 45 (constant (atom 45 (form.integer (pos 1))))) (core 47 (print (core 54 (variable (named 47))))))))) no_bounds) (core 61 (constant (atom 61 (form.integer (pos 2))))))) no_cores);
  names = reserved ++ codes "c" ∷ codes "x" ∷ [];
  limits = usual;
  schedule = replicate 2 1 ++ replicate 2 1 ++ replicate 1 2 ++ replicate 2 2 ++ replicate 1 2 ++ replicate 1 1 ++ replicate 1 2;
  output = codes "";
  journal = codes "qlisp 2 2000000 1000000 65535 16777216\nturn 1 2\nspawn 1 2 0 eager 1\nturn 1 2\nturn 2 1\nprotect 2 1\nturn 2 2\nbegin 2 1\nturn 2 1\nturn 1 1\nexit 1 0\nkill 0 2\nend 1 ok\nturn 2 1\nstop error deadfuture 2 47\n";
}

-- (let ((c (qlambda 'eager (x) (qlet t ((t1 (print x))) t1)))) 2)
abbrev pub eager_deadlock : Worked
eager_deadlock = record {
  program = program ([]) ([]) (and_core (core 0 (binding (and_bound (binder 7 (named 46)) (core 9 (qlambda (core 18 (constant (atom 19 (form.symbol 3)))) ((binder 26 (named 47)) ∷ []) (core 29 (qlet (core 35 (constant (atom 35 (form.symbol 1)))) (and_bound (binder 39 (named 48)) (core 42 (print (core 49 (variable (named 47))))) no_bounds) (core 54 (variable (named 48))))))) no_bounds) (core 61 (constant (atom 61 (form.integer (pos 2))))))) no_cores);
  names = reserved ++ codes "c" ∷ codes "x" ∷ codes "t1" ∷ [];
  limits = usual;
  schedule = replicate 2 1 ++ replicate 2 1 ++ replicate 2 2 ++ replicate 1 3;
  output = codes "";
  journal = codes "qlisp 2 2000000 1000000 65535 16777216\nturn 1 2\nspawn 1 2 0 eager 1\nturn 1 2\nturn 2 2\nspawn 2 3 0 let\nturn 3 1\nstop deadlock\n";
}

-- (qlet t ((a '(1 (2 . x)))) a)
abbrev pub child_text : Worked
child_text = record {
  program = program ([]) ([]) (and_core (core 0 (qlet (core 6 (constant (atom 6 (form.symbol 1)))) (and_bound (binder 10 (named 46)) (core 12 (constant (list 13 (more (atom 14 (form.integer (pos 1))) (more (list 16 (more (atom 17 (form.integer (pos 2))) none) (dotted (form.symbol 47))) none)) proper))) no_bounds) (core 27 (variable (named 46))))) no_cores);
  names = reserved ++ codes "a" ∷ codes "x" ∷ [];
  limits = usual;
  schedule = replicate 2 1 ++ replicate 2 2 ++ replicate 4 1;
  output = codes "";
  journal = codes "qlisp 2 2000000 1000000 65535 16777216\nturn 1 2\nspawn 1 2 0 let\nturn 2 2\nend 2 ok (1 (2 . x))\nturn 1 4\nexit 1 0\nend 1 ok\nstop done\n";
}

-- (let ((n 0)) (let ((f (lambda () (setq n (+ n 1))))) (funcall f) (print (funcall f))))
abbrev pub box_kept : Worked
box_kept = record {
  program = program ([]) ([]) (and_core (core 0 (binding (and_bound (binder 7 (named 46)) (core 9 (constant (atom 9 (form.integer (pos 0))))) no_bounds) (core 13 (binding (and_bound (binder 20 (named 47)) (core 22 (lambda ([]) (core 33 (setq (named 46) 39 (core 41 (primitive 29 (and_core (core 44 (variable (named 46))) (and_core (core 46 (constant (atom 46 (form.integer (pos 1))))) no_cores)))))))) no_bounds) (core 13 (progn (and_core (core 53 (funcall true (core 62 (variable (named 47))) no_cores)) (and_core (core 65 (print (core 72 (funcall false (core 81 (variable (named 47))) no_cores)))) no_cores)))))))) no_cores);
  names = reserved ++ codes "n" ∷ codes "f" ∷ [];
  limits = usual;
  schedule = replicate 20 1;
  output = codes "2\n";
  journal = codes "qlisp 2 2000000 1000000 65535 16777216\nturn 1 20\nexit 1 0\nend 1 ok\nstop done\n";
}

-- (print (unwind-protect 1 (print (qlet t ((a 2) (b 3)) (+ a b)))))
abbrev pub qlet_in_cleanup : Worked
qlet_in_cleanup = record {
  program = program ([]) ([]) (and_core (core 0 (print (core 7 (protect (core 23 (constant (atom 23 (form.integer (pos 1))))) (core 25 (print (core 32 (qlet (core 38 (constant (atom 38 (form.symbol 1)))) (and_bound (binder 42 (named 46)) (core 44 (constant (atom 44 (form.integer (pos 2))))) (and_bound (binder 48 (named 47)) (core 50 (constant (atom 50 (form.integer (pos 3))))) no_bounds)) (core 54 (primitive 29 (and_core (core 57 (variable (named 46))) (and_core (core 59 (variable (named 47))) no_cores)))))))))))) no_cores);
  names = reserved ++ codes "a" ∷ codes "b" ∷ [];
  limits = usual;
  schedule = replicate 1 1 ++ replicate 2 1 ++ replicate 10 1 ++ replicate 2 1;
  output = codes "5\n1\n";
  journal = codes "qlisp 2 2000000 1000000 65535 16777216\nturn 1 1\nprotect 1 1\nturn 1 2\nbegin 1 1\nturn 1 10\nfinish 1 1\nturn 1 2\nexit 1 0\nend 1 ok\nstop done\n";
}

-- (defun spin () (spin)) (print (qcatch 'k (qlet t ((a (unwind-protect (spin) (print 1))) (b (throw 'k 2))) a)))
abbrev pub qcatch_waits : Worked
qcatch_waits = record {
  program = program ((function 0 46 7 ([]) (core 15 (call 46 16 no_cores))) ∷ []) ([]) (and_core (core 23 (print (core 30 (qcatch (core 38 (constant (atom 39 (form.symbol 47)))) (core 41 (qlet (core 47 (constant (atom 47 (form.symbol 1)))) (and_bound (binder 51 (named 48)) (core 53 (protect (core 69 (call 46 70 no_cores)) (core 76 (print (core 83 (constant (atom 83 (form.integer (pos 1))))))))) (and_bound (binder 89 (named 49)) (core 91 (throw (core 98 (constant (atom 99 (form.symbol 47)))) (core 101 (constant (atom 101 (form.integer (pos 2))))))) no_bounds)) (core 106 (variable (named 48))))))))) no_cores);
  names = reserved ++ codes "spin" ∷ codes "k" ∷ codes "a" ∷ codes "b" ∷ [];
  limits = record usual { quantum = 8 };
  schedule = replicate 2 1 ++ replicate 2 1 ++ replicate 1 2 ++ replicate 7 2 ++ replicate 3 3 ++ replicate 1 3 ++ replicate 1 2 ++ replicate 3 2 ++ replicate 1 2 ++ replicate 1 1 ++ replicate 2 1;
  output = codes "1\n2\n";
  journal = codes "qlisp 2 2000000 1000000 65535 16777216\nturn 1 2\nopen 1 1 0\nturn 1 2\nspawn 1 2 1 let\nspawn 1 3 1 let\nturn 2 1\nprotect 2 1\nturn 2 7\nturn 3 3\nthrow 3 1\nkill 1 2\nkill 1 3\nturn 3 1\nend 3 killed\nturn 2 1\nbegin 2 1\nturn 2 3\nfinish 2 1\nturn 2 1\nend 2 killed\nturn 1 1\nland 1 1\nturn 1 2\nexit 1 0\nend 1 ok\nstop done\n";
}

-- (let ((s 0)) (let ((c (qlambda t (n) (setq s (+ s n))))) (funcall c 1) (funcall c 2) (print (funcall c 3))))
abbrev pub calls_served : Worked
calls_served = record {
  program = program ([]) ([]) (and_core (core 0 (binding (and_bound (binder 7 (named 46)) (core 9 (constant (atom 9 (form.integer (pos 0))))) no_bounds) (core 13 (binding (and_bound (binder 20 (named 47)) (core 22 (qlambda (core 31 (constant (atom 31 (form.symbol 1)))) ((binder 34 (named 48)) ∷ []) (core 37 (setq (named 46) 43 (core 45 (primitive 29 (and_core (core 48 (variable (named 46))) (and_core (core 50 (variable (named 48))) no_cores)))))))) no_bounds) (core 13 (progn (and_core (core 57 (funcall true (core 66 (variable (named 47))) (and_core (core 68 (constant (atom 68 (form.integer (pos 1))))) no_cores))) (and_core (core 71 (funcall true (core 80 (variable (named 47))) (and_core (core 82 (constant (atom 82 (form.integer (pos 2))))) no_cores))) (and_core (core 85 (print (core 92 (funcall false (core 101 (variable (named 47))) (and_core (core 103 (constant (atom 103 (form.integer (pos 3))))) no_cores))))) no_cores))))))))) no_cores);
  names = reserved ++ codes "s" ∷ codes "c" ∷ codes "n" ∷ [];
  limits = record usual { quantum = 3 };
  schedule = replicate 4 1 ++ replicate 4 1 ++ replicate 1 1 ++ replicate 1 2 ++ replicate 2 2 ++ replicate 2 1 ++ replicate 1 1 ++ replicate 3 2 ++ replicate 2 1 ++ replicate 1 2 ++ replicate 5 2 ++ replicate 1 2 ++ replicate 5 2 ++ replicate 3 1 ++ replicate 1 2;
  output = codes "6\n";
  journal = codes "qlisp 2 2000000 1000000 65535 16777216\nturn 1 4\nspawn 1 2 0 call 1\nturn 1 4\nsend 1 1 1\nturn 1 1\nturn 2 1\ntake 2 1 1\nturn 2 2\nturn 1 2\nsend 1 1 2\nturn 1 1\nturn 2 3\nreply 2 1 1 1\nturn 1 2\nsend 1 1 3\nturn 2 1\ntake 2 1 2\nturn 2 5\nreply 2 1 2 3\nturn 2 1\ntake 2 1 3\nturn 2 5\nreply 2 1 3 6\nturn 1 3\nexit 1 0\nkill 0 2\nend 1 ok\nturn 2 1\nend 2 killed\nstop done\n";
}

-- (let ((c nil)) (setq c (qlambda t (n) (funcall c n))) (funcall c 1))
abbrev pub call_of_itself : Worked
call_of_itself = record {
  program = program ([]) ([]) (and_core (core 0 (binding (and_bound (binder 7 (named 46)) (core 9 (constant (atom 9 (form.symbol 0)))) no_bounds) (core 0 (progn (and_core (core 15 (setq (named 46) 21 (core 23 (qlambda (core 32 (constant (atom 32 (form.symbol 1)))) ((binder 35 (named 47)) ∷ []) (core 38 (funcall false (core 47 (variable (named 46))) (and_core (core 49 (variable (named 47))) no_cores))))))) (and_core (core 54 (funcall false (core 63 (variable (named 46))) (and_core (core 65 (constant (atom 65 (form.integer (pos 1))))) no_cores))) no_cores)))))) no_cores);
  names = reserved ++ codes "c" ∷ codes "n" ∷ [];
  limits = usual;
  schedule = replicate 4 1 ++ replicate 4 1 ++ replicate 1 2 ++ replicate 3 2;
  output = codes "";
  journal = codes "qlisp 2 2000000 1000000 65535 16777216\nturn 1 4\nspawn 1 2 0 call 1\nturn 1 4\nsend 1 1 1\nturn 2 1\ntake 2 1 1\nturn 2 3\nsend 2 1 2\nstop deadlock\n";
}

-- (defun bomb () (qlet t ((a (bomb)) (b (bomb))) nil)) (bomb)
abbrev pub all_made : Worked
all_made = record {
  program = program ((function 0 46 7 ([]) (core 15 (qlet (core 21 (constant (atom 21 (form.symbol 1)))) (and_bound (binder 25 (named 47)) (core 27 (call 46 28 no_cores)) (and_bound (binder 36 (named 48)) (core 38 (call 46 39 no_cores)) no_bounds)) (core 47 (constant (atom 47 (form.symbol 0))))))) ∷ []) ([]) (and_core (core 53 (call 46 54 no_cores)) no_cores);
  names = reserved ++ codes "bomb" ∷ codes "a" ∷ codes "b" ∷ [];
  limits = record usual { budget = 20 };
  schedule = replicate 3 1 ++ replicate 3 2 ++ replicate 3 3 ++ replicate 3 4 ++ replicate 3 5 ++ replicate 3 6 ++ replicate 2 7;
  output = codes "";
  journal = codes "qlisp 2 20 1000000 65535 16777216\nturn 1 3\nspawn 1 2 0 let\nspawn 1 3 0 let\nturn 2 3\nspawn 2 4 0 let\nspawn 2 5 0 let\nturn 3 3\nspawn 3 6 0 let\nspawn 3 7 0 let\nturn 4 3\nspawn 4 8 0 let\nspawn 4 9 0 let\nturn 5 3\nspawn 5 10 0 let\nspawn 5 11 0 let\nturn 6 3\nspawn 6 12 0 let\nspawn 6 13 0 let\nturn 7 2\nstop budget\n";
}

-- (defvar g0 1)
-- (print (catch 'zero g0 (qlet 'eager ((v8 (f0 0 -2)) (v9 -2)) (let ((l7 (list v8 v9))) (when (and (>= g0 6) nil) 7) (+ (car l7) (car (cdr l7)))))))
-- (defun f0 (n y) (if (< n 1) y (+ (f0 (- n 1) n) (+ (throw 'k 0) (+ (let ((c4 (qlambda 'eager (x5 x6) -1))) (funcall c4 n y) (funcall c4 3 6) 5) n)))))
-- (defun f1 (x) (setq g0 (qcatch 1 (throw 1 g0))))
abbrev pub one_cell_met : Worked
one_cell_met = record {
  program = program ((function 161 49 168 ((binder 172 (named 52)) ∷ (binder 174 (named 53)) ∷ []) (core 177 (conditional (core 181 (primitive 35 (and_core (core 184 (variable (named 52))) (and_core (core 186 (constant (atom 186 (form.integer (pos 1))))) no_cores)))) (core 189 (variable (named 53))) (core 191 (primitive 29 (and_core (core 194 (call 49 195 (and_core (core 198 (primitive 30 (and_core (core 201 (variable (named 52))) (and_core (core 203 (constant (atom 203 (form.integer (pos 1))))) no_cores)))) (and_core (core 206 (variable (named 52))) no_cores)))) (and_core (core 209 (primitive 29 (and_core (core 212 (throw (core 219 (constant (atom 220 (form.symbol 54)))) (core 222 (constant (atom 222 (form.integer (pos 0))))))) (and_core (core 225 (primitive 29 (and_core (core 228 (binding (and_bound (binder 235 (named 55)) (core 238 (qlambda (core 247 (constant (atom 248 (form.symbol 3)))) ((binder 255 (named 56)) ∷ (binder 258 (named 57)) ∷ []) (core 262 (constant (atom 262 (form.integer (negsuc 0))))))) no_bounds) (core 228 (progn (and_core (core 268 (funcall true (core 277 (variable (named 55))) (and_core (core 280 (variable (named 52))) (and_core (core 282 (variable (named 53))) no_cores)))) (and_core (core 285 (funcall true (core 294 (variable (named 55))) (and_core (core 297 (constant (atom 297 (form.integer (pos 3))))) (and_core (core 299 (constant (atom 299 (form.integer (pos 6))))) no_cores)))) (and_core (core 302 (constant (atom 302 (form.integer (pos 5))))) no_cores))))))) (and_core (core 305 (variable (named 52))) no_cores)))) no_cores)))) no_cores))))))) ∷ (function 312 58 319 ((binder 323 (named 59)) ∷ []) (core 326 (setq (named 46) 332 (core 335 (qcatch (core 343 (constant (atom 343 (form.integer (pos 1))))) (core 345 (throw (core 352 (constant (atom 352 (form.integer (pos 1))))) (core 354 (variable (named 46)))))))))) ∷ []) (46 ∷ []) (and_core (core 0 (defvar 46 8 (core 11 (constant (atom 11 (form.integer (pos 1))))))) (and_core (core 14 (print (core 21 (catch (core 28 (constant (atom 29 (form.symbol 47)))) (core 21 (progn (and_core (core 34 (variable (named 46))) (and_core (core 37 (qlet (core 43 (constant (atom 44 (form.symbol 3)))) (and_bound (binder 52 (named 48)) (core 55 (call 49 56 (and_core (core 59 (constant (atom 59 (form.integer (pos 0))))) (and_core (core 61 (constant (atom 61 (form.integer (negsuc 1))))) no_cores)))) (and_bound (binder 67 (named 50)) (core 70 (constant (atom 70 (form.integer (negsuc 1))))) no_bounds)) (core 75 (binding (and_bound (binder 82 (named 51)) (core 85 (primitive 19 (and_core (core 91 (variable (named 48))) (and_core (core 85 (primitive 19 (and_core (core 94 (variable (named 50))) (and_core (core 85 (constant (atom 85 (form.symbol 0)))) no_cores)))) no_cores)))) no_bounds) (core 75 (progn (and_core (core 100 (conditional (core 106 (conditional (core 111 (primitive 23 (and_core (core 111 (primitive 35 (and_core (core 115 (variable (named 46))) (and_core (core 118 (constant (atom 118 (form.integer (pos 6))))) no_cores)))) no_cores))) (core 121 (constant (atom 121 (form.symbol 0)))) (core 106 (constant (atom 106 (form.symbol 0)))))) (core 126 (constant (atom 126 (form.integer (pos 7))))) (core 100 (constant (atom 100 (form.symbol 0)))))) (and_core (core 129 (primitive 29 (and_core (core 132 (primitive 20 (and_core (core 137 (variable (named 51))) no_cores))) (and_core (core 141 (primitive 20 (and_core (core 146 (primitive 21 (and_core (core 151 (variable (named 51))) no_cores))) no_cores))) no_cores)))) no_cores)))))))) no_cores)))))))) no_cores));
  names = reserved ++ codes "g0" ∷ codes "zero" ∷ codes "v8" ∷ codes "f0" ∷ codes "v9" ∷ codes "l7" ∷ codes "n" ∷ codes "y" ∷ codes "k" ∷ codes "c4" ∷ codes "x5" ∷ codes "x6" ∷ codes "f1" ∷ codes "x" ∷ [];
  limits = record usual { budget = 2000; cells = 1; quantum = 2 };
  schedule = replicate 4 1 ++ replicate 3 1 ++ replicate 1 1 ++ replicate 2 2 ++ replicate 2 3 ++ replicate 2 1 ++ replicate 2 2 ++ replicate 2 1 ++ replicate 2 2 ++ replicate 1 1;
  output = codes "";
  journal = codes "qlisp 2 2000 1 65535 16777216\nturn 1 4\nopen 1 1 0\nturn 1 3\nspawn 1 2 1 let\nspawn 1 3 1 let\nturn 1 1\nturn 2 2\nturn 3 2\nend 3 ok -2\nturn 1 2\nturn 2 2\nturn 1 2\nturn 2 2\nturn 1 1\nstop limit cells\n";
}

-- (defvar g0 (unwind-protect 0 4))
-- (let ((c5 (qlambda t (x6) (when (< 3 x6) 6 g0) (unwind-protect (+ g0 -1) g0)))) (funcall c5 (unwind-protect g0 (funcall c5 g0) (funcall c5 -1) g0)) 7)
-- (defun f0 (n y) (if (< n 1) y (+ (f0 (- n 1) g0) (throw 'q (let ((v4 4)) (print y) 4)))))
abbrev pub call_in_cleanup : Worked
call_in_cleanup = record {
  program = program ((function 184 49 191 ((binder 195 (named 50)) ∷ (binder 197 (named 51)) ∷ []) (core 200 (conditional (core 204 (primitive 35 (and_core (core 207 (variable (named 50))) (and_core (core 209 (constant (atom 209 (form.integer (pos 1))))) no_cores)))) (core 212 (variable (named 51))) (core 214 (primitive 29 (and_core (core 217 (call 49 218 (and_core (core 221 (primitive 30 (and_core (core 224 (variable (named 50))) (and_core (core 226 (constant (atom 226 (form.integer (pos 1))))) no_cores)))) (and_core (core 229 (variable (named 46))) no_cores)))) (and_core (core 233 (throw (core 240 (constant (atom 241 (form.symbol 52)))) (core 243 (binding (and_bound (binder 250 (named 53)) (core 253 (constant (atom 253 (form.integer (pos 4))))) no_bounds) (core 243 (progn (and_core (core 257 (print (core 264 (variable (named 51))))) (and_core (core 267 (constant (atom 267 (form.integer (pos 4))))) no_cores)))))))) no_cores))))))) ∷ []) (46 ∷ []) (and_core (core 0 (defvar 46 8 (core 11 (protect (core 27 (constant (atom 27 (form.integer (pos 0))))) (core 29 (constant (atom 29 (form.integer (pos 4))))))))) (and_core (core 33 (binding (and_bound (binder 40 (named 47)) (core 43 (qlambda (core 52 (constant (atom 52 (form.symbol 1)))) ((binder 55 (named 48)) ∷ []) (core 43 (progn (and_core (core 59 (conditional (core 65 (primitive 35 (and_core (core 68 (constant (atom 68 (form.integer (pos 3))))) (and_core (core 70 (variable (named 48))) no_cores)))) (core 59 (progn (and_core (core 74 (constant (atom 74 (form.integer (pos 6))))) (and_core (core 76 (variable (named 46))) no_cores)))) (core 59 (constant (atom 59 (form.symbol 0)))))) (and_core (core 80 (protect (core 96 (primitive 29 (and_core (core 99 (variable (named 46))) (and_core (core 102 (constant (atom 102 (form.integer (negsuc 0))))) no_cores)))) (core 106 (variable (named 46))))) no_cores)))))) no_bounds) (core 33 (progn (and_core (core 113 (funcall true (core 122 (variable (named 47))) (and_core (core 125 (protect (core 141 (variable (named 46))) (core 125 (progn (and_core (core 144 (funcall true (core 153 (variable (named 47))) (and_core (core 156 (variable (named 46))) no_cores))) (and_core (core 160 (funcall true (core 169 (variable (named 47))) (and_core (core 172 (constant (atom 172 (form.integer (negsuc 0))))) no_cores))) (and_core (core 176 (variable (named 46))) no_cores))))))) no_cores))) (and_core (core 181 (constant (atom 181 (form.integer (pos 7))))) no_cores)))))) no_cores));
  names = reserved ++ codes "g0" ∷ codes "c5" ∷ codes "x6" ∷ codes "f0" ∷ codes "n" ∷ codes "y" ∷ codes "q" ∷ codes "v4" ∷ [];
  limits = record usual { budget = 2000; quantum = 2; policy = New };
  schedule = replicate 1 1 ++ replicate 2 1 ++ replicate 2 1 ++ replicate 3 1 ++ replicate 3 1 ++ replicate 2 1 ++ replicate 3 1;
  output = codes "";
  journal = codes "qlisp 2 2000 1000000 65535 16777216\nturn 1 1\nprotect 1 1\nturn 1 2\nbegin 1 1\nturn 1 2\nfinish 1 1\nturn 1 3\nspawn 1 2 0 call 1\nturn 1 3\nprotect 1 2\nturn 1 2\nbegin 1 2\nturn 1 3\nstop error incleanup 1 144\n";
}

-- (defvar g 0)
-- (defvar gc (lambda (x) x))
-- (print (catch 'a (qlet t ((r0 (unwind-protect (throw 'a 0) (catch 'b (unwind-protect (progn 4 (throw 'b 3)) (unwind-protect 0 (print 1)))))) (z (throw 'a 1))) (qcatch 'b (qlet nil ((v1 4)) (throw 'b 4))))))
abbrev pub catches_in_killed : Worked
catches_in_killed = record {
  program = program ([]) (46 ∷ 47 ∷ []) (and_core (core 0 (defvar 46 8 (core 10 (constant (atom 10 (form.integer (pos 0))))))) (and_core (core 13 (defvar 47 21 (core 24 (lambda ((binder 33 (named 48)) ∷ []) (core 36 (variable (named 48))))))) (and_core (core 40 (print (core 47 (catch (core 54 (constant (atom 55 (form.symbol 49)))) (core 57 (qlet (core 63 (constant (atom 63 (form.symbol 1)))) (and_bound (binder 67 (named 50)) (core 70 (protect (core 86 (throw (core 93 (constant (atom 94 (form.symbol 49)))) (core 96 (constant (atom 96 (form.integer (pos 0))))))) (core 99 (catch (core 106 (constant (atom 107 (form.symbol 51)))) (core 109 (protect (core 125 (progn (and_core (core 132 (constant (atom 132 (form.integer (pos 4))))) (and_core (core 134 (throw (core 141 (constant (atom 142 (form.symbol 51)))) (core 144 (constant (atom 144 (form.integer (pos 3))))))) no_cores)))) (core 148 (protect (core 164 (constant (atom 164 (form.integer (pos 0))))) (core 166 (print (core 173 (constant (atom 173 (form.integer (pos 1))))))))))))))) (and_bound (binder 182 (named 52)) (core 184 (throw (core 191 (constant (atom 192 (form.symbol 49)))) (core 194 (constant (atom 194 (form.integer (pos 1))))))) no_bounds)) (core 199 (qcatch (core 207 (constant (atom 208 (form.symbol 51)))) (core 210 (qlet (core 216 (constant (atom 216 (form.symbol 0)))) (and_bound (binder 222 (named 53)) (core 225 (constant (atom 225 (form.integer (pos 4))))) no_bounds) (core 229 (throw (core 236 (constant (atom 237 (form.symbol 51)))) (core 239 (constant (atom 239 (form.integer (pos 4))))))))))))))))) no_cores)));
  names = reserved ++ codes "g" ∷ codes "gc" ∷ codes "x" ∷ codes "a" ∷ codes "r0" ∷ codes "b" ∷ codes "z" ∷ codes "v1" ∷ [];
  limits = record usual { budget = 2000; policy = Old };
  schedule = replicate 6 1 ++ replicate 2 1 ++ replicate 1 2 ++ replicate 3 2 ++ replicate 1 2 ++ replicate 2 2 ++ replicate 1 2 ++ replicate 4 2 ++ replicate 1 2 ++ replicate 1 2 ++ replicate 2 2 ++ replicate 3 2 ++ replicate 1 2 ++ replicate 1 2 ++ replicate 1 2 ++ replicate 1 2 ++ replicate 1 1 ++ replicate 1 1 ++ replicate 1 3 ++ replicate 1 1;
  output = codes "1\n0\n";
  journal = codes "qlisp 2 2000 1000000 65535 16777216\nturn 1 6\nopen 1 1 0\nturn 1 2\nspawn 1 2 1 let\nspawn 1 3 1 let\nturn 2 1\nprotect 2 1\nturn 2 3\nthrow 2 1\nkill 1 2\nkill 1 3\nturn 2 1\nbegin 2 1\nturn 2 2\nopen 2 2 1\nturn 2 1\nprotect 2 2\nturn 2 4\nthrow 2 2\nturn 2 1\nbegin 2 2\nturn 2 1\nprotect 2 3\nturn 2 2\nbegin 2 3\nturn 2 3\nfinish 2 3\nturn 2 1\nfinish 2 2\nturn 2 1\nland 2 2\nturn 2 1\nfinish 2 1\nturn 2 1\nend 2 killed\nturn 1 1\nland 1 1\nturn 1 1\nturn 3 1\nend 3 killed\nturn 1 1\nexit 1 0\nend 1 ok\nstop done\n";
}

-- (defvar gc (lambda (x) x))
-- (let* () (let ((c4 (qlambda 'eager (x5) x5))) (funcall c4 1) 3))
-- (print (list -1 7))
-- (print (qcatch 'zero (qcatch 'k (qlet t ((a0 -2) (a1 (unwind-protect (throw 'k -1) 7 2)) (a2 (unwind-protect 6 (funcall gc -1) 6))) 1))))
abbrev pub cleaning_goes_on : Worked
cleaning_goes_on = record {
  program = program ([]) (46 ∷ []) (and_core (core 0 (defvar 46 8 (core 11 (lambda ((binder 20 (named 47)) ∷ []) (core 23 (variable (named 47))))))) (and_core (core 27 (binding no_bounds (core 36 (binding (and_bound (binder 43 (named 48)) (core 46 (qlambda (core 55 (constant (atom 56 (form.symbol 3)))) ((binder 63 (named 49)) ∷ []) (core 67 (variable (named 49))))) no_bounds) (core 36 (progn (and_core (core 73 (funcall true (core 82 (variable (named 48))) (and_core (core 85 (constant (atom 85 (form.integer (pos 1))))) no_cores))) (and_core (core 88 (constant (atom 88 (form.integer (pos 3))))) no_cores)))))))) (and_core (core 92 (print (core 99 (primitive 19 (and_core (core 105 (constant (atom 105 (form.integer (negsuc 0))))) (and_core (core 99 (primitive 19 (and_core (core 108 (constant (atom 108 (form.integer (pos 7))))) (and_core (core 99 (constant (atom 99 (form.symbol 0)))) no_cores)))) no_cores)))))) (and_core (core 112 (print (core 119 (qcatch (core 127 (constant (atom 128 (form.symbol 50)))) (core 133 (qcatch (core 141 (constant (atom 142 (form.symbol 51)))) (core 144 (qlet (core 150 (constant (atom 150 (form.symbol 1)))) (and_bound (binder 154 (named 52)) (core 157 (constant (atom 157 (form.integer (negsuc 1))))) (and_bound (binder 162 (named 53)) (core 165 (protect (core 181 (throw (core 188 (constant (atom 189 (form.symbol 51)))) (core 191 (constant (atom 191 (form.integer (negsuc 0))))))) (core 165 (progn (and_core (core 195 (constant (atom 195 (form.integer (pos 7))))) (and_core (core 197 (constant (atom 197 (form.integer (pos 2))))) no_cores)))))) (and_bound (binder 202 (named 54)) (core 205 (protect (core 221 (constant (atom 221 (form.integer (pos 6))))) (core 205 (progn (and_core (core 223 (funcall true (core 232 (variable (named 46))) (and_core (core 235 (constant (atom 235 (form.integer (negsuc 0))))) no_cores))) (and_core (core 239 (constant (atom 239 (form.integer (pos 6))))) no_cores)))))) no_bounds))) (core 244 (constant (atom 244 (form.integer (pos 1))))))))))))) no_cores))));
  names = reserved ++ codes "gc" ∷ codes "x" ∷ codes "c4" ∷ codes "x5" ∷ codes "zero" ∷ codes "k" ∷ codes "a0" ∷ codes "a1" ∷ codes "a2" ∷ [];
  limits = record usual { budget = 300; quantum = 3 };
  schedule = replicate 5 1 ++ replicate 1 1 ++ replicate 1 2 ++ replicate 3 1 ++ replicate 2 2 ++ replicate 1 2 ++ replicate 9 1 ++ replicate 2 1 ++ replicate 2 1 ++ replicate 2 3 ++ replicate 1 4 ++ replicate 2 4 ++ replicate 1 5 ++ replicate 2 5 ++ replicate 1 1 ++ replicate 1 4 ++ replicate 1 4 ++ replicate 1 4 ++ replicate 3 5 ++ replicate 2 4 ++ replicate 1 4 ++ replicate 4 5 ++ replicate 1 5 ++ replicate 1 1 ++ replicate 1 1 ++ replicate 2 1 ++ replicate 1 2;
  output = codes "(-1 7)\n-1\n";
  journal = codes "qlisp 2 300 1000000 65535 16777216\nturn 1 5\nspawn 1 2 0 eager 1\nturn 1 1\nturn 2 1\nturn 1 3\nsend 1 1 1\ntake 2 1 1\nturn 2 2\nreply 2 1 1 1\nturn 2 1\nturn 1 9\nopen 1 1 0\nturn 1 2\nopen 1 2 1\nturn 1 2\nspawn 1 3 2 let\nspawn 1 4 2 let\nspawn 1 5 2 let\nturn 3 2\nend 3 ok -2\nturn 4 1\nprotect 4 1\nturn 4 2\nturn 5 1\nprotect 5 2\nturn 5 2\nbegin 5 2\nturn 1 1\nturn 4 1\nthrow 4 2\nkill 2 4\nkill 2 5\nturn 4 1\nbegin 4 1\nturn 4 1\nturn 5 3\nturn 4 2\nfinish 4 1\nturn 4 1\nend 4 killed\nturn 5 4\nfinish 5 2\nturn 5 1\nend 5 killed\nturn 1 1\nland 1 2\nturn 1 1\nexit 1 1\nturn 1 2\nexit 1 0\nkill 0 2\nend 1 ok\nturn 2 1\nend 2 killed\nstop done\n";
}

-- (defvar g0 (print -2))
-- (print (qcatch 'q (qlet t ((a0 g0) (a1 (qcatch 'q (qlet t ((a0 (throw 'q g0)) (a1 g0)) (print a0) -2)))) (let ((c4 (qlambda t () a0 a0))) (funcall c4) (funcall c4) (funcall c4) g0))))
abbrev pub home_kept : Worked
home_kept = record {
  program = program ([]) (46 ∷ []) (and_core (core 0 (defvar 46 8 (core 11 (print (core 18 (constant (atom 18 (form.integer (negsuc 1))))))))) (and_core (core 23 (print (core 30 (qcatch (core 38 (constant (atom 39 (form.symbol 47)))) (core 41 (qlet (core 47 (constant (atom 47 (form.symbol 1)))) (and_bound (binder 51 (named 48)) (core 54 (variable (named 46))) (and_bound (binder 59 (named 49)) (core 62 (qcatch (core 70 (constant (atom 71 (form.symbol 47)))) (core 73 (qlet (core 79 (constant (atom 79 (form.symbol 1)))) (and_bound (binder 83 (named 48)) (core 86 (throw (core 93 (constant (atom 94 (form.symbol 47)))) (core 96 (variable (named 46))))) (and_bound (binder 102 (named 49)) (core 105 (variable (named 46))) no_bounds)) (core 73 (progn (and_core (core 110 (print (core 117 (variable (named 48))))) (and_core (core 121 (constant (atom 121 (form.integer (negsuc 1))))) no_cores)))))))) no_bounds)) (core 128 (binding (and_bound (binder 135 (named 50)) (core 138 (qlambda (core 147 (constant (atom 147 (form.symbol 1)))) ([]) (core 138 (progn (and_core (core 152 (variable (named 48))) (and_core (core 155 (variable (named 48))) no_cores)))))) no_bounds) (core 128 (progn (and_core (core 161 (funcall true (core 170 (variable (named 50))) no_cores)) (and_core (core 174 (funcall true (core 183 (variable (named 50))) no_cores)) (and_core (core 187 (funcall true (core 196 (variable (named 50))) no_cores)) (and_core (core 200 (variable (named 46))) no_cores)))))))))))))) no_cores));
  names = reserved ++ codes "g0" ∷ codes "q" ∷ codes "a0" ∷ codes "a1" ∷ codes "c4" ∷ [];
  limits = record usual { budget = 50 };
  schedule = replicate 5 1 ++ replicate 2 1 ++ replicate 2 2 ++ replicate 2 3 ++ replicate 2 3 ++ replicate 3 4 ++ replicate 1 4 ++ replicate 1 5 ++ replicate 1 1 ++ replicate 1 3 ++ replicate 1 3 ++ replicate 4 1 ++ replicate 3 1 ++ replicate 2 1 ++ replicate 2 1 ++ replicate 1 1 ++ replicate 1 6 ++ replicate 3 6 ++ replicate 1 6 ++ replicate 3 6 ++ replicate 1 6 ++ replicate 3 6 ++ replicate 1 1 ++ replicate 1 1 ++ replicate 1 6 ++ replicate 1 1;
  output = codes "-2\n-2\n";
  journal = codes "qlisp 2 50 1000000 65535 16777216\nturn 1 5\nopen 1 1 0\nturn 1 2\nspawn 1 2 1 let\nspawn 1 3 1 let\nturn 2 2\nend 2 ok -2\nturn 3 2\nopen 3 2 1\nturn 3 2\nspawn 3 4 2 let\nspawn 3 5 2 let\nturn 4 3\nthrow 4 2\nkill 2 4\nkill 2 5\nturn 4 1\nend 4 killed\nturn 5 1\nend 5 killed\nturn 1 1\nturn 3 1\nland 3 2\nturn 3 1\nend 3 ok -2\nturn 1 4\nspawn 1 6 1 call 1\nturn 1 3\nsend 1 1 1\nturn 1 2\nsend 1 1 2\nturn 1 2\nsend 1 1 3\nturn 1 1\nturn 6 1\ntake 6 1 1\nturn 6 3\nreply 6 1 1 -2\nturn 6 1\ntake 6 1 2\nturn 6 3\nreply 6 1 2 -2\nturn 6 1\ntake 6 1 3\nturn 6 3\nreply 6 1 3 -2\nturn 1 1\nexit 1 1\nkill 1 6\nturn 1 1\nturn 6 1\nend 6 killed\nturn 1 1\nexit 1 0\nend 1 ok\nstop done\n";
}

-- (defvar g0 (let* () 0 3))
-- (defvar gc (lambda (x) x))
-- (print (qcatch 'zero (qlet t ((a0 (progn (let ((c2 (qlambda 'eager (x1) g0))) (setq gc c2) (funcall c2 g0) (funcall c2 g0) (funcall c2 g0) g0) (throw 'zero -2))) (a1 (progn (funcall gc g0) (throw 'zero 2)))) (- a1 g0))))
-- (qlet 1 () g0)
-- (print (catch 'm (catch 'm (when t 2) (funcall gc g0))))
-- (defun spin () (spin))
abbrev pub closure_shared : Worked
closure_shared = record {
  program = program ((function 346 55 353 ([]) (core 361 (call 55 362 no_cores))) ∷ []) (46 ∷ 47 ∷ []) (and_core (core 0 (defvar 46 8 (core 11 (binding no_bounds (core 11 (progn (and_core (core 20 (constant (atom 20 (form.integer (pos 0))))) (and_core (core 22 (constant (atom 22 (form.integer (pos 3))))) no_cores)))))))) (and_core (core 26 (defvar 47 34 (core 37 (lambda ((binder 46 (named 48)) ∷ []) (core 49 (variable (named 48))))))) (and_core (core 53 (print (core 60 (qcatch (core 68 (constant (atom 69 (form.symbol 49)))) (core 74 (qlet (core 80 (constant (atom 80 (form.symbol 1)))) (and_bound (binder 84 (named 50)) (core 87 (progn (and_core (core 94 (binding (and_bound (binder 101 (named 51)) (core 104 (qlambda (core 113 (constant (atom 114 (form.symbol 3)))) ((binder 121 (named 52)) ∷ []) (core 125 (variable (named 46))))) no_bounds) (core 94 (progn (and_core (core 131 (setq (named 47) 137 (core 140 (variable (named 51))))) (and_core (core 144 (funcall true (core 153 (variable (named 51))) (and_core (core 156 (variable (named 46))) no_cores))) (and_core (core 160 (funcall true (core 169 (variable (named 51))) (and_core (core 172 (variable (named 46))) no_cores))) (and_core (core 176 (funcall true (core 185 (variable (named 51))) (and_core (core 188 (variable (named 46))) no_cores))) (and_core (core 192 (variable (named 46))) no_cores))))))))) (and_core (core 196 (throw (core 203 (constant (atom 204 (form.symbol 49)))) (core 209 (constant (atom 209 (form.integer (negsuc 1))))))) no_cores)))) (and_bound (binder 216 (named 53)) (core 219 (progn (and_core (core 226 (funcall true (core 235 (variable (named 47))) (and_core (core 238 (variable (named 46))) no_cores))) (and_core (core 242 (throw (core 249 (constant (atom 250 (form.symbol 49)))) (core 255 (constant (atom 255 (form.integer (pos 2))))))) no_cores)))) no_bounds)) (core 261 (primitive 30 (and_core (core 264 (variable (named 53))) (and_core (core 267 (variable (named 46))) no_cores)))))))))) (and_core (core 274 (qlet (core 280 (constant (atom 280 (form.integer (pos 1))))) no_bounds (core 285 (variable (named 46))))) (and_core (core 289 (print (core 296 (catch (core 303 (constant (atom 304 (form.symbol 54)))) (core 306 (catch (core 313 (constant (atom 314 (form.symbol 54)))) (core 306 (progn (and_core (core 316 (conditional (core 322 (constant (atom 322 (form.symbol 1)))) (core 324 (constant (atom 324 (form.integer (pos 2))))) (core 316 (constant (atom 316 (form.symbol 0)))))) (and_core (core 327 (funcall false (core 336 (variable (named 47))) (and_core (core 339 (variable (named 46))) no_cores))) no_cores)))))))))) no_cores)))));
  names = reserved ++ codes "g0" ∷ codes "gc" ∷ codes "x" ∷ codes "zero" ∷ codes "a0" ∷ codes "c2" ∷ codes "x1" ∷ codes "a1" ∷ codes "m" ∷ codes "spin" ∷ [];
  limits = record usual { budget = 300; cells = 3; quantum = 5; policy = Turn };
  schedule = replicate 8 1 ++ replicate 2 1 ++ replicate 2 2 ++ replicate 3 2 ++ replicate 3 3 ++ replicate 2 3 ++ replicate 2 4 ++ replicate 1 4 ++ replicate 3 2 ++ replicate 2 2 ++ replicate 1 3 ++ replicate 1 3 ++ replicate 1 4 ++ replicate 1 2 ++ replicate 1 1 ++ replicate 7 1 ++ replicate 2 1 ++ replicate 6 1;
  output = codes "2\n";
  journal = codes "qlisp 2 300 3 65535 16777216\nturn 1 8\nopen 1 1 0\nturn 1 2\nspawn 1 2 1 let\nspawn 1 3 1 let\nturn 2 2\nspawn 2 4 1 eager 1\nturn 2 3\nturn 3 3\nsend 3 1 1\ntake 4 1 1\nturn 3 2\nturn 4 2\nreply 4 1 1 3\nturn 4 1\nturn 2 3\nsend 2 1 2\ntake 4 1 2\nturn 2 2\nturn 3 1\nthrow 3 1\nkill 1 2\nkill 1 3\nkill 1 4\nturn 3 1\nend 3 killed\nturn 4 1\nend 4 killed\nturn 2 1\nend 2 killed\nturn 1 1\nland 1 1\nturn 1 7\nopen 1 2 0\nturn 1 2\nopen 1 3 2\nturn 1 6\nstop error deadclosure 1 327\n";
}

-- (defvar g 0)
-- (defvar gc (lambda (x) x))
-- (print (catch 'a (qcatch 'c (let ((c1 (qlambda 'eager (x1_0) (unwind-protect x1_0 (print x1_0))))) (funcall c1 2) (qcatch 'a (throw 'a 4))))))
abbrev pub eager_in_cleanup : Worked
eager_in_cleanup = record {
  program = program ([]) (46 ∷ 47 ∷ []) (and_core (core 0 (defvar 46 8 (core 10 (constant (atom 10 (form.integer (pos 0))))))) (and_core (core 13 (defvar 47 21 (core 24 (lambda ((binder 33 (named 48)) ∷ []) (core 36 (variable (named 48))))))) (and_core (core 40 (print (core 47 (catch (core 54 (constant (atom 55 (form.symbol 49)))) (core 57 (qcatch (core 65 (constant (atom 66 (form.symbol 50)))) (core 68 (binding (and_bound (binder 75 (named 51)) (core 78 (qlambda (core 87 (constant (atom 88 (form.symbol 3)))) ((binder 95 (named 52)) ∷ []) (core 101 (protect (core 117 (variable (named 52))) (core 122 (print (core 129 (variable (named 52))))))))) no_bounds) (core 68 (progn (and_core (core 139 (funcall true (core 148 (variable (named 51))) (and_core (core 151 (constant (atom 151 (form.integer (pos 2))))) no_cores))) (and_core (core 154 (qcatch (core 162 (constant (atom 163 (form.symbol 49)))) (core 165 (throw (core 172 (constant (atom 173 (form.symbol 49)))) (core 175 (constant (atom 175 (form.integer (pos 4))))))))) no_cores)))))))))))) no_cores)));
  names = reserved ++ codes "g" ∷ codes "gc" ∷ codes "x" ∷ codes "a" ∷ codes "c" ∷ codes "c1" ∷ codes "x1_0" ∷ [];
  limits = record usual { budget = 2000; quantum = 17; policy = Turn };
  schedule = replicate 6 1 ++ replicate 2 1 ++ replicate 2 1 ++ replicate 4 1 ++ replicate 2 1 ++ replicate 1 1 ++ replicate 1 2 ++ replicate 2 2 ++ replicate 4 2 ++ replicate 2 2 ++ replicate 1 2 ++ replicate 2 2 ++ replicate 1 2 ++ replicate 2 1 ++ replicate 1 1 ++ replicate 1 1 ++ replicate 1 1 ++ replicate 1 1 ++ replicate 1 2;
  output = codes "2\n4\n";
  journal = codes "qlisp 2 2000 1000000 65535 16777216\nturn 1 6\nopen 1 1 0\nturn 1 2\nopen 1 2 1\nturn 1 2\nspawn 1 2 2 eager 1\nturn 1 4\nsend 1 1 1\ntake 2 1 1\nturn 1 2\nopen 1 3 2\nturn 1 1\nturn 2 1\nprotect 2 1\nturn 2 2\nbegin 2 1\nturn 2 4\nfinish 2 1\nturn 2 2\nreply 2 1 1 2\nturn 2 1\nprotect 2 2\nturn 2 2\nbegin 2 2\nturn 2 1\nturn 1 2\nthrow 1 3\nturn 1 1\nland 1 3\nturn 1 1\nexit 1 2\nkill 2 2\nturn 1 1\nexit 1 1\nturn 1 1\nturn 2 1\nstop error deadfuture 2 122\n";
}

-- (defvar g 0)
-- (defvar gc (lambda (x) x))
-- (print (catch 'a (let ((c1 (qlambda 'eager (x1_0) (catch 'b (let ((c2 (qlambda 'eager (x2_0 x2_1) (throw 'b 3)))) (funcall c2 4 x1_0) x1_0))))) (funcall c1 2) (throw 'a 0))))
abbrev pub eager_nested : Worked
eager_nested = record {
  program = program ([]) (46 ∷ 47 ∷ []) (and_core (core 0 (defvar 46 8 (core 10 (constant (atom 10 (form.integer (pos 0))))))) (and_core (core 13 (defvar 47 21 (core 24 (lambda ((binder 33 (named 48)) ∷ []) (core 36 (variable (named 48))))))) (and_core (core 40 (print (core 47 (catch (core 54 (constant (atom 55 (form.symbol 49)))) (core 57 (binding (and_bound (binder 64 (named 50)) (core 67 (qlambda (core 76 (constant (atom 77 (form.symbol 3)))) ((binder 84 (named 51)) ∷ []) (core 90 (catch (core 97 (constant (atom 98 (form.symbol 52)))) (core 100 (binding (and_bound (binder 107 (named 53)) (core 110 (qlambda (core 119 (constant (atom 120 (form.symbol 3)))) ((binder 127 (named 54)) ∷ (binder 132 (named 55)) ∷ []) (core 138 (throw (core 145 (constant (atom 146 (form.symbol 52)))) (core 148 (constant (atom 148 (form.integer (pos 3))))))))) no_bounds) (core 100 (progn (and_core (core 154 (funcall true (core 163 (variable (named 53))) (and_core (core 166 (constant (atom 166 (form.integer (pos 4))))) (and_core (core 168 (variable (named 51))) no_cores)))) (and_core (core 174 (variable (named 51))) no_cores)))))))))) no_bounds) (core 57 (progn (and_core (core 184 (funcall true (core 193 (variable (named 50))) (and_core (core 196 (constant (atom 196 (form.integer (pos 2))))) no_cores))) (and_core (core 199 (throw (core 206 (constant (atom 207 (form.symbol 49)))) (core 209 (constant (atom 209 (form.integer (pos 0))))))) no_cores)))))))))) no_cores)));
  names = reserved ++ codes "g" ∷ codes "gc" ∷ codes "x" ∷ codes "a" ∷ codes "c1" ∷ codes "x1_0" ∷ codes "b" ∷ codes "c2" ∷ codes "x2_0" ∷ codes "x2_1" ∷ [];
  limits = record usual { budget = 2000; quantum = 3; policy = Turn };
  schedule = replicate 6 1 ++ replicate 2 1 ++ replicate 1 1 ++ replicate 2 2 ++ replicate 1 2 ++ replicate 3 1 ++ replicate 1 2 ++ replicate 2 2 ++ replicate 3 3 ++ replicate 3 1 ++ replicate 2 2 ++ replicate 1 3 ++ replicate 1 1 ++ replicate 2 1;
  output = codes "0\n";
  journal = codes "qlisp 2 2000 1000000 65535 16777216\nturn 1 6\nopen 1 1 0\nturn 1 2\nspawn 1 2 1 eager 1\nturn 1 1\nturn 2 2\nopen 2 2 1\nturn 2 1\nturn 1 3\nsend 1 1 1\ntake 2 1 1\nturn 2 1\nspawn 2 3 2 eager 2\nturn 2 2\nturn 3 3\nthrow 3 2\nkill 2 3\nturn 1 3\nthrow 1 1\nkill 1 2\nturn 2 2\nend 2 killed\nturn 3 1\nend 3 killed\nturn 1 1\nland 1 1\nturn 1 2\nexit 1 0\nend 1 ok\nstop done\n";
}

-- (defvar g 0)
-- (defvar gc (lambda (x) x))
-- (print (catch 'a (let ((c1 (qlambda t (x1_0) (qcatch 'a (unwind-protect (throw 'a x1_0) (setq g 4)))))) (funcall c1 0) (qlet t ((v2 (throw 'a 2))) (let ((c3 (qlambda nil (x3_0) (throw 'a v2)))) (funcall c1 v2) 2)))))
abbrev pub caught_in_call : Worked
caught_in_call = record {
  program = program ([]) (46 ∷ 47 ∷ []) (and_core (core 0 (defvar 46 8 (core 10 (constant (atom 10 (form.integer (pos 0))))))) (and_core (core 13 (defvar 47 21 (core 24 (lambda ((binder 33 (named 48)) ∷ []) (core 36 (variable (named 48))))))) (and_core (core 40 (print (core 47 (catch (core 54 (constant (atom 55 (form.symbol 49)))) (core 57 (binding (and_bound (binder 64 (named 50)) (core 67 (qlambda (core 76 (constant (atom 76 (form.symbol 1)))) ((binder 79 (named 51)) ∷ []) (core 85 (qcatch (core 93 (constant (atom 94 (form.symbol 49)))) (core 96 (protect (core 112 (throw (core 119 (constant (atom 120 (form.symbol 49)))) (core 122 (variable (named 51))))) (core 128 (setq (named 46) 134 (core 136 (constant (atom 136 (form.integer (pos 4))))))))))))) no_bounds) (core 57 (progn (and_core (core 144 (funcall true (core 153 (variable (named 50))) (and_core (core 156 (constant (atom 156 (form.integer (pos 0))))) no_cores))) (and_core (core 159 (qlet (core 165 (constant (atom 165 (form.symbol 1)))) (and_bound (binder 169 (named 52)) (core 172 (throw (core 179 (constant (atom 180 (form.symbol 49)))) (core 182 (constant (atom 182 (form.integer (pos 2))))))) no_bounds) (core 187 (binding (and_bound (binder 194 (named 53)) (core 197 (qlambda (core 206 (constant (atom 206 (form.symbol 0)))) ((binder 211 (named 54)) ∷ []) (core 217 (throw (core 224 (constant (atom 225 (form.symbol 49)))) (core 227 (variable (named 52))))))) no_bounds) (core 187 (progn (and_core (core 234 (funcall true (core 243 (variable (named 50))) (and_core (core 246 (variable (named 52))) no_cores))) (and_core (core 250 (constant (atom 250 (form.integer (pos 2))))) no_cores)))))))) no_cores)))))))))) no_cores)));
  names = reserved ++ codes "g" ∷ codes "gc" ∷ codes "x" ∷ codes "a" ∷ codes "c1" ∷ codes "x1_0" ∷ codes "v2" ∷ codes "c3" ∷ codes "x3_0" ∷ [];
  limits = record usual { budget = 50 };
  schedule = replicate 6 1 ++ replicate 2 1 ++ replicate 4 1 ++ replicate 2 1 ++ replicate 1 2 ++ replicate 2 2 ++ replicate 1 2 ++ replicate 3 2 ++ replicate 1 2 ++ replicate 3 2 ++ replicate 1 2 ++ replicate 1 2 ++ replicate 3 3 ++ replicate 1 3 ++ replicate 1 1 ++ replicate 1 1 ++ replicate 1 2 ++ replicate 1 1;
  output = codes "2\n";
  journal = codes "qlisp 2 50 1000000 65535 16777216\nturn 1 6\nopen 1 1 0\nturn 1 2\nspawn 1 2 1 call 1\nturn 1 4\nsend 1 1 1\nturn 1 2\nspawn 1 3 1 let\nturn 2 1\ntake 2 1 1\nturn 2 2\nopen 2 2 1\nturn 2 1\nprotect 2 1\nturn 2 3\nthrow 2 2\nturn 2 1\nbegin 2 1\nturn 2 3\nfinish 2 1\nturn 2 1\nland 2 2\nturn 2 1\nreply 2 1 1 0\nturn 3 3\nthrow 3 1\nkill 1 2\nkill 1 3\nturn 3 1\nend 3 killed\nturn 1 1\nland 1 1\nturn 1 1\nturn 2 1\nend 2 killed\nturn 1 1\nexit 1 0\nend 1 ok\nstop done\n";
}

-- (defvar g0 -1)
-- (defvar g1 (let ((c2 (qlambda 'eager (x0) g0 -2))) (funcall c2 6) (funcall c2 g0) (funcall c2 g0) g0))
-- (defvar gc (lambda (x) x))
-- (print (qcatch 'k g0 g1))
-- (defun f0 (n y) (if (< n 1) y (+ (f0 (- n 1) 1) (qlet t ((v0 6)) 0))))
-- (defun f1 (n y) (if (< n 1) y (+ (f1 (- n 1) n) g1)))
-- (defun spin () (spin))
abbrev pub eager_in_order : Worked
eager_in_order = record {
  program = program ((function 171 53 178 ((binder 182 (named 54)) ∷ (binder 184 (named 55)) ∷ []) (core 187 (conditional (core 191 (primitive 35 (and_core (core 194 (variable (named 54))) (and_core (core 196 (constant (atom 196 (form.integer (pos 1))))) no_cores)))) (core 199 (variable (named 55))) (core 201 (primitive 29 (and_core (core 204 (call 53 205 (and_core (core 208 (primitive 30 (and_core (core 211 (variable (named 54))) (and_core (core 213 (constant (atom 213 (form.integer (pos 1))))) no_cores)))) (and_core (core 216 (constant (atom 216 (form.integer (pos 1))))) no_cores)))) (and_core (core 219 (qlet (core 225 (constant (atom 225 (form.symbol 1)))) (and_bound (binder 229 (named 56)) (core 232 (constant (atom 232 (form.integer (pos 6))))) no_bounds) (core 236 (constant (atom 236 (form.integer (pos 0))))))) no_cores))))))) ∷ (function 242 57 249 ((binder 253 (named 54)) ∷ (binder 255 (named 55)) ∷ []) (core 258 (conditional (core 262 (primitive 35 (and_core (core 265 (variable (named 54))) (and_core (core 267 (constant (atom 267 (form.integer (pos 1))))) no_cores)))) (core 270 (variable (named 55))) (core 272 (primitive 29 (and_core (core 275 (call 57 276 (and_core (core 279 (primitive 30 (and_core (core 282 (variable (named 54))) (and_core (core 284 (constant (atom 284 (form.integer (pos 1))))) no_cores)))) (and_core (core 287 (variable (named 54))) no_cores)))) (and_core (core 290 (variable (named 47))) no_cores))))))) ∷ (function 296 58 303 ([]) (core 311 (call 58 312 no_cores))) ∷ []) (46 ∷ 47 ∷ 50 ∷ []) (and_core (core 0 (defvar 46 8 (core 11 (constant (atom 11 (form.integer (negsuc 0))))))) (and_core (core 15 (defvar 47 23 (core 26 (binding (and_bound (binder 33 (named 48)) (core 36 (qlambda (core 45 (constant (atom 46 (form.symbol 3)))) ((binder 53 (named 49)) ∷ []) (core 36 (progn (and_core (core 57 (variable (named 46))) (and_core (core 60 (constant (atom 60 (form.integer (negsuc 1))))) no_cores)))))) no_bounds) (core 26 (progn (and_core (core 66 (funcall true (core 75 (variable (named 48))) (and_core (core 78 (constant (atom 78 (form.integer (pos 6))))) no_cores))) (and_core (core 81 (funcall true (core 90 (variable (named 48))) (and_core (core 93 (variable (named 46))) no_cores))) (and_core (core 97 (funcall true (core 106 (variable (named 48))) (and_core (core 109 (variable (named 46))) no_cores))) (and_core (core 113 (variable (named 46))) no_cores)))))))))) (and_core (core 118 (defvar 50 126 (core 129 (lambda ((binder 138 (named 51)) ∷ []) (core 141 (variable (named 51))))))) (and_core (core 145 (print (core 152 (qcatch (core 160 (constant (atom 161 (form.symbol 52)))) (core 152 (progn (and_core (core 163 (variable (named 46))) (and_core (core 166 (variable (named 47))) no_cores)))))))) no_cores))));
  names = reserved ++ codes "g0" ∷ codes "g1" ∷ codes "c2" ∷ codes "x0" ∷ codes "gc" ∷ codes "x" ∷ codes "k" ∷ codes "f0" ∷ codes "n" ∷ codes "y" ∷ codes "v0" ∷ codes "f1" ∷ codes "spin" ∷ [];
  limits = record usual { budget = 2000; quantum = 17; policy = New };
  schedule = replicate 4 1 ++ replicate 4 1 ++ replicate 3 1 ++ replicate 3 1 ++ replicate 3 1 ++ replicate 3 2 ++ replicate 3 2 ++ replicate 3 2 ++ replicate 2 2 ++ replicate 3 1 ++ replicate 3 1 ++ replicate 2 1 ++ replicate 1 2;
  output = codes "-1\n";
  journal = codes "qlisp 2 2000 1000000 65535 16777216\nturn 1 4\nspawn 1 2 0 eager 1\nturn 1 4\nsend 1 1 1\ntake 2 1 1\nturn 1 3\nsend 1 1 2\nturn 1 3\nsend 1 1 3\nturn 1 3\nturn 2 3\nreply 2 1 1 -2\ntake 2 1 2\nturn 2 3\nreply 2 1 2 -2\ntake 2 1 3\nturn 2 3\nreply 2 1 3 -2\nturn 2 2\nturn 1 3\nopen 1 1 0\nturn 1 3\nexit 1 1\nturn 1 2\nexit 1 0\nkill 0 2\nend 1 ok\nturn 2 1\nend 2 killed\nstop done\n";
}
