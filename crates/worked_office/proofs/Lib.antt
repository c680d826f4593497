mod Untouched
