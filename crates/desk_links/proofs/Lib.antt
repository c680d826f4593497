mod Dealing
