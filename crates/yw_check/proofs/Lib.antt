mod JudgedLemmas
